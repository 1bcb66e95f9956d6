-- The rest of a derived section, from a boundary on: the invariant of a walk over its entries.
use Rattle.std.specs.Prelude.{ℕ, ◌≤◌, List, length, drop}
use Rattle.layout.specs.Answers.{limit}
use Rattle.section.specs.Derivation.{Derivation}
use Rattle.section.specs.Demand3.{DerivedBy}

-- There are at most `limit` bytes, and those from a boundary on are derived
pub record Rest (s : List ℕ) (at : ℕ) : Type 0 where
  pub small : length s ≤ limit
  pub inside : at ≤ length s
  pub derivation : Derivation
  pub by : DerivedBy (drop at s) derivation
