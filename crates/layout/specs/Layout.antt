-- Layouts: what a part of an entity consists of; the values of a layout, which are its derivations; their leaves
-- (docs/FORMAT.md, Derivations). Nothing here refers to the reader.
use Rattle.std.specs.Prelude.{ℕ, ◌<◌, List, [], ◌∷◌, ◌++◌, map, ◌≡◌, length}
use Rattle.text.specs.Rfc3629.{Utf8}

-- The sorts of leaf that hold a number: entity kind, other tag, flag, number, count of a list
pub data Sort : Type 0 where
  Kind : Sort
  Tag : Sort
  Flag : Sort
  Number : Sort
  Count : Sort
  deriving Discrete as Sort-discrete

-- A leaf: a number of one of these sorts, or the bytes of a text
pub data Leaf : Type 0 where
  plain : Sort → ℕ → Leaf
  string : List ℕ → Leaf

-- The value of a leaf; for a text, its length in bytes
abbrev pub leaf_value : Leaf → ℕ
leaf_value (plain srt n) = n
leaf_value (string t) = length t

-- The values of leaves, which are all that a judge sees: it does not see the bytes of a text
abbrev pub values_of : List Leaf → List ℕ
values_of ls = map leaf_value ls

-- What a layout itself refuses: an unknown kind; another unknown tag; in a declaration's result, a mapping other than As and
-- Numeric, or an error
pub data Fault : Type 0 where
  unknown_kind : Fault
  unknown_tag : Fault
  other_mapping : Fault
  error_result : Fault

-- The number of the refusal for each
abbrev pub refusal_of : Fault → ℕ
refusal_of unknown_kind = 8
refusal_of unknown_tag = 9
refusal_of other_mapping = 10
refusal_of error_result = 11

-- The verdict of a judge
pub data Verdict : Type 0 where
  fine : Verdict
  wrong : Fault → Verdict

infixr 30 ◌then◌
-- `one srt`: a leaf that holds a number. `text`: a text. `A then B`: A, then B.
-- `case srt before judge branch`: a leaf that holds a number n, then `before`; only then is n judged; then `branch n`.
-- `check A judge`: A, whose leaves are then judged by their values.
-- What is judged wrong is refused at the place of the leaf, or where A begins.
pub data Layout : Type 0 where
  nothing : Layout
  one : Sort → Layout
  text : Layout
  ◌then◌ : Layout → Layout → Layout
  case : Sort → (before : Layout) → (judge : ℕ → Verdict) → (branch : ℕ → Layout) → Layout
  check : Layout → (judge : List ℕ → Verdict) → Layout

-- A value for each part of a layout
abbrev pub Value : Layout → Type 0
Value nothing = Unit {0}
Value (one srt) = ℕ
Value text = List ℕ
Value (A then B) = Value A × Value B
Value (case srt A j B) = (n : ℕ) × Value A × Value (B n)
Value (check A j) = Value A

-- Its leaves, in the order in which they are written
abbrev pub leaves : (L : Layout) → Value L → List Leaf
leaves nothing v = []
leaves (one srt) n = plain srt n ∷ []
leaves text t = string t ∷ []
leaves (A then B) v = leaves A v.0 ++ leaves B v.1
leaves (case srt A j B) v = plain srt v.0 ∷ (leaves A v.1 ++ leaves (B v.0) v.2)
leaves (check A j) v = leaves A v

-- F holds of each leaf, and each judge finds it fine
abbrev pub Meets : (F : Leaf → Type 0) (L : Layout) → Value L → Type 0
Meets F nothing v = Unit {0}
Meets F (one srt) n = F (plain srt n)
Meets F text t = F (string t)
Meets F (A then B) v = Meets F A v.0 × Meets F B v.1
Meets F (case srt A j B) v = F (plain srt v.0) × Meets F A v.1 × (j v.0 ≡ fine) × Meets F (B v.0) v.2
Meets F (check A j) v = Meets F A v × (j (values_of (leaves A v)) ≡ fine)

-- The bound below which a leaf's number must be: a byte, 0 or 1, four bytes
abbrev pub bound : Sort → ℕ
bound Kind = 256
bound Tag = 256
bound Flag = 2
bound Number = 4294967296
bound Count = 4294967296

-- A number fits its bytes; a text is valid UTF-8, and its length fits four bytes
abbrev pub Fits : Leaf → Type 0
Fits (plain srt n) = n < bound srt
Fits (string t) = Utf8 t × (length t < 4294967296)

-- A value that derives bytes: each leaf fits, and each judge finds it fine
abbrev pub Proper : (L : Layout) → Value L → Type 0
Proper L v = Meets Fits L v
