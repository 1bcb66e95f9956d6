-- A pass over the leaves of a layout: what an implementation of `Pass` means, and what a function over a part of a layout does.
use Rattle.std.specs.Prelude.{ℕ, ◌≡◌}
use Rattle.layout.specs.Layout.{Layout, Fault, refusal_of}
use Rattle.layout.specs.Machine.{Machine, drive}
use Rattle.layout.specs.Entities.{ArgumentSql, result_verdict, as_or_numeric}

-- Its states; what it is lent, which stays as it is; the machine that it runs on what it is lent; the place of a state, where the
-- next leaf begins; whether a state is refused; a state after a refusal, by its number, for what began at a place; and the values
-- of tags that were passed, each by its distance from a place
pub record Meaning (P : Type 0) : Type 1 where
  pub State : Type 0
  pub Lent : Type 0
  pub state : P → State
  pub lent : P → Lent
  pub machine : Lent → Machine State
  pub place : State → ℕ
  pub refused : State → Type 0
  pub after_refusal : (number place : ℕ) → State → State
  pub seen : Lent → (place index : ℕ) → ℕ

module _ {P : Type 0} (M : Meaning P) where
  -- The value of the last leaf
  abbrev pub value_in : P → ℕ
  value_in p = (M.machine (M.lent p)).value (M.state p)

  -- The pass over a layout, from p to q
  pub record Runs (L : Layout) (p q : P) : Type 0 where
    pub lent : M.lent q ≡ M.lent p
    pub state : M.state q ≡ drive (M.machine (M.lent p)) L (M.state p)

  -- A refusal by its number, for what began at a place
  pub record Halts (number place : ℕ) (p q : P) : Type 0 where
    pub lent : M.lent q ≡ M.lent p
    pub whole : M.state q ≡ M.after_refusal number place (M.state p)
    pub state : (f : Fault) (begin : M.State) → refusal_of f ≡ number → M.place begin ≡ place → M.state q ≡ (M.machine (M.lent p)).halt f begin (M.state p)

  -- A state that is refused does not change
  pub record Stays : Type 0 where
    pub over : (x : M.Lent) (L : Layout) (st : M.State) → M.refused st → drive (M.machine x) L st ≡ st
    pub halted : (x : M.Lent) (f : Fault) (begin st : M.State) → M.refused st → (M.machine x).halt f begin st ≡ st

  -- The result of a declaration, if it was not refused, is judged by the values of the two tags that it begins with
  abbrev pub Judges : Type 0
  Judges =
      (x : M.Lent) (st : M.State) → (M.refused (drive (M.machine x) ArgumentSql st) → ⊥)
      → (M.machine x).verdict ArgumentSql result_verdict st ≡ as_or_numeric (M.seen x (M.place st) 0) (M.seen x (M.place st) 1)
