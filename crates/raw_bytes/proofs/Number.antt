-- The number at a place.
use Prim.Native.Nat.{ℕ, ◌+◌, ◌≤◌, ◌<◌}
use mathlib.Core.Bool.{Bool, true, false}
use mathlib.Core.List.{List}
use mathlib.Core.Path.{◌≡◌, refl}
use lib.Dec.{leb}
use lib.ListN.{length}
use borrow.Author.Tests.{lt-leb, le-leb, leb-true, leb-false}
use Rattle.layout.specs.Reading.{number_at}
use Rattle.raw_bytes.specs.Bytes.{number_or0}

module _ (s : List ℕ) (at : ℕ) where
  pub number_none : length s < at + 4 → number_or0 s at ≡ 0
  unfolding number_or0
  number_none h = rw (lt-leb (at + 4) (length s) h)

  pub number_there : at + 4 ≤ length s → number_or0 s at ≡ number_at s at
  unfolding number_or0
  number_there h = rw (le-leb (at + 4) (length s) h)

  -- Where the number is not 0, its bytes stand
  pub number_some : (number_or0 s at ≡ 0 → ⊥) → at + 4 ≤ length s
  number_some h = go (leb (at + 4) (length s)) refl
    where
      go : (b : Bool) → leb (at + 4) (length s) ≡ b → at + 4 ≤ length s
      go true e = leb-true (at + 4) (length s) e
      go false e = absurd (h (number_none (leb-false (at + 4) (length s) e)))
