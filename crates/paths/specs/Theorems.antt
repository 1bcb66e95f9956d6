-- What is proved of the definitions, as statements. Each comment names the proof, in proofs/.
use Rattle.std.specs.Prelude.{ℕ, ◌+◌, ◌*◌, ◌≤◌, cond, List, [], ◌∷◌, ◌++◌, ◌↔◌, ◌≡◌, eqb, length}
use Rattle.layout.specs.Layout.{Leaf, string, Value, leaves, Proper}
use Rattle.layout.specs.Entities.{Entity, value_in}
use Rattle.layout.specs.Theorems.{Bytes}
use Rattle.section.specs.Derivation.{Derivation, Placed, entities_of}
use Rattle.section.specs.Demand3.{Good}
use Rattle.table.specs.Answers.{counted, uncounted}
use Rattle.runs.specs.Runs.{pairs}
use Rattle.paths.specs.Paths.{full_path_fields, field_of, full_path, kinds_and_paths, report}
use Rattle.paths.specs.Repeats.{Repeat, RepeatPairs, ExactReport}

-- After as many leaves of an entity as `full_path_fields` has for its kind stands a text, and that is its full_path
pub record PathText (ls : List Leaf) : Type 0 where
  pub before : List Leaf
  pub text : List ℕ
  pub after : List Leaf
  pub stands : ls ≡ before ++ (string text ∷ after)
  pub field : length before ≡ field_of full_path_fields (value_in ls 0)
  pub path : full_path ls ≡ text ∷ []

-- This holds of every entity but a schema: `path_text` in Fields.antt
abbrev pub PathIsText : Type 0
PathIsText = (v : Value Entity) → Proper Entity v → (value_in (leaves Entity v) 0 ≡ 1 → ⊥) → PathText (leaves Entity v)

-- A schema has no full_path, and so repeats none: `schema_alone` in Exact.antt
abbrev pub SchemaAlone : Type 0
SchemaAlone = (e f : List Leaf) → value_in e 0 ≡ 1 → (Repeat e f → ⊥) × (Repeat f e → ⊥)

-- `RepeatPairs` holds of one number for some entities, which is that of the report: `repeat_pairs_exact` in Exact.antt
abbrev pub RepeatPairsExact : Type 0
RepeatPairsExact = (es : List Placed) (n : ℕ) → RepeatPairs es n ↔ (n ≡ pairs (kinds_and_paths es))

-- The report meets its contract in terms of derivations and of the conditions of refusals: `report_exact` in Exact.antt
abbrev pub ReportExact : Type 0
ReportExact = (s : List ℕ) → Bytes s → ExactReport s (report s)

-- A report's refusals are 1 to 12: `report_numbered` in Exact.antt
abbrev pub ReportNumbered : Type 0
ReportNumbered = (s : List ℕ) → Bytes s → (n p : ℕ) → report s ≡ uncounted n p → (1 ≤ n) × (n ≤ 12)

-- The full_path texts of entities, in order
abbrev pub paths : List Placed → List (List ℕ)
paths [] = []
paths (e ∷ es) = full_path e.content ++ paths es

-- The number is at most that of the pairs with the same full_path bytes, of one kind or not: `report_at_most` in ByKind.antt
abbrev pub ReportAtMost : Type 0
ReportAtMost = (s : List ℕ) (d : Derivation) → Good s d → (n : ℕ) → report s ≡ counted n → n ≤ pairs (paths (entities_of d))

-- The entities of a kind, in order
abbrev pub of_kind : (kind : ℕ) → List Placed → List Placed
of_kind kind [] = []
of_kind kind (e ∷ es) = cond (eqb kind (value_in e.content 0)) (e ∷ of_kind kind es) (of_kind kind es)

-- The pairs with the same full_path bytes among the entities of a kind
abbrev pub pairs_of_kind : (kind : ℕ) → List Placed → ℕ
pairs_of_kind kind es = pairs (paths (of_kind kind es))

-- The number is the sum of these for the eight kinds with a full_path: `report_by_kinds` in ByKind.antt
abbrev pub ReportByKinds : Type 0
ReportByKinds =
    (s : List ℕ) (d : Derivation) → Good s d
    → (let es = entities_of d in
    report s
    ≡ counted (pairs_of_kind 2 es + pairs_of_kind 3 es + pairs_of_kind 4 es + pairs_of_kind 5 es + pairs_of_kind 6 es + pairs_of_kind 7 es + pairs_of_kind 8 es + pairs_of_kind 9 es))

-- An entry with a full_path takes 27 bytes or more, so that as many numbers of work as a 27th of the bytes are enough: `paths_few` in Few.antt
abbrev pub PathsFew : Type 0
PathsFew = (s : List ℕ) (d : Derivation) → Good s d → 27 * length (kinds_and_paths (entities_of d)) ≤ length s
