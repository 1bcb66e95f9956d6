-- One payload, metadata record or mapping alone (docs/FORMAT.md, Refusals). Nothing here refers to the reader.
use Rattle.std.specs.Prelude.{ℕ, ◌≤◌, ◌<◌, List, [], ◌∷◌, ◌≡◌, length}
use Rattle.layout.specs.Layout.{Leaf, Layout, Value, leaves, Proper}
use Rattle.layout.specs.Written.{bytes, rows_from}
use Rattle.layout.specs.BadReads.{BadPayload}
use Rattle.layout.specs.Answers.{limit, Result, Given, Exact}

-- What leaves give if the first of them is at the first byte
abbrev pub given : (entities : ℕ) → List Leaf → Given
given entities ls = record { entities = entities; leaf_count = length ls; rows = rows_from 0 ls }

-- There are at most `limit` bytes, and v derives them
pub record Derives (L : Layout) (s : List ℕ) (v : Value L) : Type 0 where
  pub small : length s ≤ limit
  pub proper : Proper L v
  pub derives : bytes L v ≡ s

-- A refusal of one value alone: 1 comes first; then 5 to 12
pub data RefusalAlone (L : Layout) (s : List ℕ) : (number place : ℕ) → Type 0 where
  too_long : limit < length s → RefusalAlone L s 1 0
  bad_payload : {n p : ℕ} → length s ≤ limit → BadPayload s L 0 n p → RefusalAlone L s n p

-- The statement of demand 3 for one value of a layout alone: a payload has 1 entity, metadata and a mapping have 0
abbrev pub ExactAlone : Layout → (entities : ℕ) → List ℕ → List ℕ → Result → Type 0
ExactAlone L entities s table r =
    Exact (Derives L s) (λ v. given entities (leaves L v)) (RefusalAlone L s) table r

-- The numbers with which one payload alone is refused
abbrev pub payload_numbers : List ℕ
payload_numbers = 1 ∷ 5 ∷ 6 ∷ 7 ∷ 8 ∷ 9 ∷ 10 ∷ 11 ∷ 12 ∷ 13 ∷ []

-- The same for one metadata record or mapping alone
abbrev pub metadata_numbers : List ℕ
metadata_numbers = 1 ∷ 5 ∷ 6 ∷ 7 ∷ 9 ∷ 12 ∷ 13 ∷ []
