-- Where the entry at a place ends, and where the entry of the next entity begins: past the sentinels.
use Rattle.std.specs.Prelude.{ℕ, zero, suc, ◌+◌, Bool, cond, ◌&&◌, List, ltb, leb, length, take, drop}
use Rattle.raw_bytes.specs.Bytes.{number_or0, same}
use Rattle.framing.specs.Entries.{sentinel_bytes}

-- Where the entry at a place ends; the place itself, if there is no whole entry
unfoldable pub entry_end : List ℕ → (place : ℕ) → ℕ
entry_end s at = cond (leb 1 (number_or0 s at) && leb (at + 4 + number_or0 s at) (length s)) (at + 4 + number_or0 s at) at

-- The sentinel's entry is at a place
unfoldable pub sentinel_at : List ℕ → (place : ℕ) → Bool
sentinel_at s at = ltb at (entry_end s at) && same (drop (at + 4) (take (entry_end s at) s)) sentinel_bytes

-- Past at most n sentinels, one after the other
unfoldable pub skipped : ℕ → List ℕ → (place : ℕ) → ℕ
skipped zero s at = at
skipped (suc k) s at = cond (sentinel_at s at) (skipped k s (entry_end s at)) at

-- Past all of them: there are no more sentinels than bytes
unfoldable pub past_sentinels : List ℕ → (place : ℕ) → ℕ
past_sentinels s at = skipped (suc (length s)) s at
