-- The path report in terms of derivations and of the conditions of refusals (docs/FORMAT.md, The path report).
use Rattle.std.specs.Prelude.{ℕ, ◌+◌, List, [], ◌∷◌, ◌↔◌, ◌≡◌}
use Rattle.layout.specs.Layout.{Leaf}
use Rattle.layout.specs.Entities.{value_in}
use Rattle.table.specs.Answers.{Total, counted, uncounted}
use Rattle.section.specs.Derivation.{Derivation, Placed, entities_of}
use Rattle.section.specs.Refusals.{SectionRefusal}
use Rattle.section.specs.Demand3.{Good}
use Rattle.paths.specs.Paths.{full_path}

-- Two entities with these leaves repeat a path: they are of one kind, and their full_path bytes agree
pub record Repeat (e f : List Leaf) : Type 0 where
  pub kinds : value_in e 0 ≡ value_in f 0
  pub path : List ℕ
  pub first : full_path e ≡ path ∷ []
  pub second : full_path f ≡ path ∷ []

-- n of some entities repeat the path of e
pub data RepeatsWith (e : Placed) : List Placed → (n : ℕ) → Type 0 where
  with_none : RepeatsWith e [] 0
  with_next : {f : Placed} {fs : List Placed} {n : ℕ} → Repeat e.content f.content → RepeatsWith e fs n → RepeatsWith e (f ∷ fs) (1 + n)
  without_next : {f : Placed} {fs : List Placed} {n : ℕ} → (Repeat e.content f.content → ⊥) → RepeatsWith e fs n → RepeatsWith e (f ∷ fs) n

-- n unordered pairs of some entities repeat a path: those of each with the ones after it
pub data RepeatPairs : List Placed → (n : ℕ) → Type 0 where
  no_pairs : RepeatPairs [] 0
  more_pairs : {e : Placed} {es : List Placed} {m n : ℕ} → RepeatsWith e es m → RepeatPairs es n → RepeatPairs (e ∷ es) (m + n)

-- The contract of the report on a section s
pub record ExactReport (s : List ℕ) (answer : Total) : Type 0 where
  -- a number is answered exactly if there are at most `limit` bytes and the layouts derive them; it is the number of pairs of their
  -- entities that repeat a path
  pub counts : (n : ℕ) → (answer ≡ counted n) ↔ (d : Derivation) × Good s d × RepeatPairs (entities_of d) n
  -- each refusal of 1 to 12 is answered exactly under its condition
  pub refuses : (n p : ℕ) → (answer ≡ uncounted n p) ↔ SectionRefusal s n p
