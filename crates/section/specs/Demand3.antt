-- Demand 3 (docs/STATEMENT.md): the contract of reading a whole section, in terms of derivations and of the conditions of
-- refusals.
use Rattle.std.specs.Prelude.{ℕ, ◌≤◌, List, ◌≡◌, length}
use Rattle.layout.specs.Answers.{limit, Result, Given, Exact}
use Rattle.section.specs.Derivation.{Derivation, derive, ProperItems, given_of, entities_of}
use Rattle.section.specs.Refusals.{SectionRefusal}

-- The layouts derive s, by d
pub record DerivedBy (s : List ℕ) (d : Derivation) : Type 0 where
  pub proper : ProperItems d.items
  pub derives : derive d ≡ s

-- There are at most `limit` bytes, and the layouts derive them, by d
pub record Good (s : List ℕ) (d : Derivation) : Type 0 where
  pub small : length s ≤ limit
  pub by : DerivedBy s d

-- What a derivation gives: the number of its entities, the number of its leaves, and their rows
abbrev pub gives : Derivation → Given
gives d = given_of (entities_of d)

-- Demand 3, for a section s, a lent table, and the result r of reading s with that table
pub record Demand3 (s table : List ℕ) (r : Result) : Type 0 where
  -- what is accepted, with which counts and rows, and what is refused, with which number and at which place
  pub exact : Exact (Good s) gives (SectionRefusal s) table r
  -- no section has two derivations
  pub unique : (d e : Derivation) → DerivedBy s d → DerivedBy s e → d ≡ e
