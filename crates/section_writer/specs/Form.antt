-- A section of one or more entities, as a form in which rows are written.
use Rattle.std.specs.Prelude.{ℕ, ◌≤◌, List, [], ◌∷◌, map, length}
use Rattle.layout.specs.Layout.{Leaf, Value, leaves, Meets}
use Rattle.layout.specs.Entities.{Entity}
use Rattle.section.specs.Derivation.{Derivation, entity, entries}
use Rattle.section.specs.Demand3.{Good}
use Rattle.writing.specs.Refusals.{Sized, Form}
use Rattle.storing.specs.Storing.{joined}

-- The derivation of entities without sentinel and padding
abbrev pub section_of : List (Value Entity) → Derivation
section_of vs = record { items = map entity vs; padding = 0 }

-- What is written: its entries
abbrev pub section_bytes : List (Value Entity) → List ℕ
section_bytes vs = entries (map entity vs)

-- The leaves of entities, one after the other
abbrev pub section_leaves : List (Value Entity) → List Leaf
section_leaves vs = joined (map (leaves Entity) vs)

-- The numbers of each entity fit their bytes, and each judge finds it fine
abbrev pub EachAllowed : List (Value Entity) → Type 0
EachAllowed [] = Unit {0}
EachAllowed (v ∷ vs) = Meets Sized Entity v × EachAllowed vs

-- One or more entities, as a section without sentinel and padding. A proper one is a section by its derivation
abbrev pub section : Form
section = record {
  Content = List (Value Entity);
  Allowed = λ vs. (1 ≤ length vs) × EachAllowed vs;
  Proper = λ vs. Good (section_bytes vs) (section_of vs);
  leaves = section_leaves;
  bytes = section_bytes;
}
