-- Definitions for the contracts of private functions; no public contract cites them.
use Rattle.std.specs.Prelude.{ℕ, ◌+◌, ◌≡◌, ◌<◌, ◌≤◌, Bool, true, false, [], ◌∷◌, length}
use Rattle.layout.specs.Reading.{Outcome, ok, refuse}
use Rattle.layout.specs.Answers.{limit}
use Rattle.leaf.specs.declared.Reader.{Reader}
use Rattle.reading.specs.State.{ReadState, stop, put, guarded}
use Rattle.leaf.specs.Reader.{state_of, lent_of}

-- A number that was read, stored as a leaf with a sort's number
abbrev pub put_number : (sort : ℕ) → Outcome ℕ ℕ → ReadState → ReadState
put_number sort (ok n next) st = put (sort ∷ st.cursor.at ∷ n ∷ []) n next st
put_number sort (refuse n p) st = stop n p st

-- n bytes are left, and nothing changed
pub record Enough (n : ℕ) (p q : Reader) : Type 0 where
  pub same : p ≡ q
  pub going : q.refusal ≡ 0
  pub small : length q.s.now ≤ limit
  pub enough : q.at + n ≤ length q.s.now

-- The reader was refused, or is refused now: too many bytes, or fewer than n are left
pub record Short (n : ℕ) (p q : Reader) : Type 0 where
  pub lent : lent_of q ≡ lent_of p
  pub state : state_of q ≡ guarded p.s.now (stop 5 p.at (state_of p)) (state_of p)
  pub short : p.refusal ≡ 0 → length p.s.now ≤ limit → length p.s.now < p.at + n

-- A reader's answer to whether n bytes are left
abbrev pub Left : Bool → (n : ℕ) → (p q : Reader) → Type 0
Left true n p q = Enough n p q
Left false n p q = Short n p q
