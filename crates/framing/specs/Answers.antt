-- What the framing alone answers.
use Rattle.std.specs.Prelude.{ℕ, ◌≤◌, List, ◌↔◌, ◌≡◌, leb, length, Result, Ok, Err}
use Rattle.layout.specs.Reading.{Outcome, ok, refuse, ◌>>=◌, need}
use Rattle.layout.specs.Answers.{limit}
use Rattle.table.specs.declared.Refusal.{Refusal}
use Rattle.framing.specs.Framing.{Parts, framing}
use Rattle.framing.specs.Refusals.{FramingRefusal, WholeFraming}

-- The meaning of each case: where the padding begins, or the number and place
abbrev pub framing_of : Result ℕ Refusal → Outcome ℕ (Unit {0})
framing_of (Ok end) = ok tt end
framing_of (Err refusal) = refuse refusal.number refusal.place

-- Where a framing ends, without the parts it finds
abbrev pub end_of : Parts → Outcome ℕ (Unit {0})
end_of g = g >>= λ parts end. ok tt end

-- Where the framing of all the bytes ends: 2 to 4
unfoldable pub framing_end : List ℕ → Outcome ℕ (Unit {0})
framing_end s = end_of (framing s)

-- The same, with 1 first: at most `limit` bytes
unfoldable pub entry_payloads : List ℕ → Outcome ℕ (Unit {0})
entry_payloads s = need (leb (length s) limit) 1 0 (framing_end s)

-- The contract of the framing alone, in terms of entries and bad boundaries
pub record ExactFraming (s : List ℕ) (o : Outcome ℕ (Unit {0})) : Type 0 where
  -- where the padding begins, exactly if there are at most `limit` bytes, and they are entries and padding
  pub whole : (end : ℕ) → (o ≡ ok tt end) ↔ (length s ≤ limit) × WholeFraming s end
  -- each refusal exactly under its condition
  pub refuses : (n p : ℕ) → (o ≡ refuse n p) ↔ FramingRefusal s n p
