-- What a reading answers, and what it leaves in the lent table (docs/FORMAT.md, Rows and Refusals; demand 3 of
-- docs/STATEMENT.md). Nothing here refers to the reader.
use Rattle.std.specs.Prelude.{ℕ, ◌-◌, ◌*◌, ◌/◌, ◌≤◌, ◌<◌, Bool, true, false, List, ◌++◌, ◌↔◌, ◌≡◌, length, replicate}
use Rattle.layout.specs.Written.{row_width}

-- The most bytes that are read, and the most that are written
abbrev pub limit : ℕ
limit = 16777216

-- An answer: whether it accepts; the number and place of a refusal; the numbers of entities and rows
pub record Answer : Type 0 where
  pub accepts : Bool
  pub number : ℕ
  pub place : ℕ
  pub entities : ℕ
  pub rows : ℕ

-- An acceptance, whose number and place are 0
abbrev pub accepted : (entities rows : ℕ) → Answer
accepted entities rows = record { accepts = true; number = 0; place = 0; entities = entities; rows = rows }

-- A refusal: its number and place, with both counts 0
abbrev pub refused : (number place : ℕ) → Answer
refused number place = record { accepts = false; number = number; place = place; entities = 0; rows = 0 }

-- The answer accepts
abbrev pub Accepts : Answer → Type 0
Accepts a = a.accepts ≡ true

-- An answer, with the whole lent table after it
pub record Result : Type 0 where
  pub answer : Answer
  pub table : List ℕ

-- What a derivation gives: the number of its entities, the number of its leaves, and their rows
pub record Given : Type 0 where
  pub entities : ℕ
  pub leaf_count : ℕ
  pub rows : List ℕ

-- The number of whole rows in a table
abbrev pub whole_rows : List ℕ → ℕ
whole_rows table = length table / row_width

-- An acceptance: the table has the rows, then only 0
abbrev pub acceptance : Given → List ℕ → Result
acceptance g table = record {
  answer = accepted g.entities g.leaf_count;
  table = g.rows ++ replicate (length table - row_width * g.leaf_count) 0;
}

-- A refusal: the table is all 0
abbrev pub refusal : (number place : ℕ) → List ℕ → Result
refusal n p table = record { answer = refused n p; table = replicate (length table) 0 }

-- The statement of demand 3. A good derivation derives the bytes given, which are at most `limit`; `gives` is what a derivation
-- gives, `Refusal` the condition of each refusal of 1 to 12, r the result with a table
pub record Exact {D : Type 0} (Good : D → Type 0) (gives : D → Given) (Refusal : (number place : ℕ) → Type 0) (table : List ℕ) (r : Result) : Type 0 where
  -- accepted exactly if there is a good derivation and the table has a whole row for each of its leaves
  pub accepts : Accepts r.answer ↔ (d : D) × Good d × ((gives d).leaf_count ≤ whole_rows table)
  -- then the two counts and the whole table are the derivation's
  pub fits : (d : D) → Good d → (gives d).leaf_count ≤ whole_rows table → r ≡ acceptance (gives d) table
  -- 13 at place 0 exactly if there is a good derivation and the table has fewer rows
  pub too_few : (r ≡ refusal 13 0 table) ↔ (d : D) × Good d × (whole_rows table < (gives d).leaf_count)
  -- each of 1 to 12 exactly under its condition, which does not depend on the table
  pub refuses : (n p : ℕ) → n ≤ 12 → (r ≡ refusal n p table) ↔ Refusal n p
  -- and bytes without a good derivation meet one of these conditions
  pub others : ((d : D) → Good d → ⊥) → (n p : ℕ) × Refusal n p × (1 ≤ n) × (n ≤ 12)
