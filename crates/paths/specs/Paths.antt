-- The path report (docs/FORMAT.md, The path report).
use Rattle.std.specs.Prelude.{ℕ, zero, suc, cond, List, [], ◌∷◌, ◌++◌, map, eqb, get_or, Result, Ok, Err}
use Rattle.layout.specs.Layout.{Leaf, plain, string}
use Rattle.layout.specs.Entities.{value_in}
use Rattle.layout.specs.Reading.{Outcome, ok, refuse}
use Rattle.runs.specs.Runs.{pairs}
use Rattle.table.specs.declared.Refusal.{Refusal}
use Rattle.table.specs.Answers.{Total, counted, uncounted}
use Rattle.section.specs.Derivation.{Placed}
use Rattle.section.specs.Section.{read_section}

-- A kind, and which of its fields is full_path, from 1. A schema has none. Each field up to full_path is one leaf, a text or a number
abbrev pub full_path_fields : List (ℕ × ℕ)
full_path_fields =
    (2, 3)  -- custom SQL: T sql, module_path, full_path
    ∷ (3, 4)  -- function: T name, unaliased_name, module_path, full_path
    ∷ (4, 5)  -- type: T name, file; N line; T module_path, full_path
    ∷ (5, 5)  -- enum: T name, file; N line; T module_path, full_path
    ∷ (6, 4)  -- ord: T name, file; N line; T full_path
    ∷ (7, 4)  -- hash: T name, file; N line; T full_path
    ∷ (8, 1)  -- aggregate: T full_path
    ∷ (9, 5)  -- trigger: T function_name, file; N line; T module_path, full_path
    ∷ []

-- The field that a table has for a kind, 0 for a kind that is not there
abbrev pub field_of : List (ℕ × ℕ) → ℕ → ℕ
field_of [] kind = 0
field_of (row ∷ rows) kind = cond (eqb kind row.0) row.1 (field_of rows kind)

-- The bytes of a leaf that is a text
abbrev pub text_of : Leaf → List ℕ
text_of (plain srt n) = []
text_of (string t) = t

-- The text that is a field of an entity, if the field is there. The first leaf is the kind, the next the first field
abbrev pub text_field : List Leaf → ℕ → List (List ℕ)
text_field ls zero = []
text_field ls (suc i) = get_or (map text_of ls) (suc i) [] ∷ []

-- The full_path of an entity with these leaves, if it has one
abbrev pub full_path : List Leaf → List (List ℕ)
full_path ls = text_field ls (field_of full_path_fields (value_in ls 0))

-- The kind of an entity with these leaves, and then the bytes of its full_path, if it has one
abbrev pub kind_and_path : List Leaf → List (List ℕ)
kind_and_path ls = map (λ path. value_in ls 0 ∷ path) (full_path ls)

-- Those of entities, in order. Two are the same exactly if the entities are of one kind and their full_path bytes agree
abbrev pub kinds_and_paths : List Placed → List (List ℕ)
kinds_and_paths [] = []
kinds_and_paths (e ∷ es) = kind_and_path e.content ++ kinds_and_paths es

-- The report on what is read: the number of pairs, or a refusal
abbrev pub report_on : Outcome ℕ (List Placed) → Total
report_on (ok es end) = counted (pairs (kinds_and_paths es))
report_on (refuse n p) = uncounted n p

-- The report on a section: its refusals of 1 to 12 are the report's
unfoldable pub report : List ℕ → Total
report s = report_on (read_section s)

-- The number, or number and place, of each case
abbrev pub report_of : Result ℕ Refusal → Total
report_of (Ok n) = counted n
report_of (Err refusal) = uncounted refusal.number refusal.place
