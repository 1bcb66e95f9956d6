-- What rows spell, and each refusal under its condition (docs/FORMAT.md, Refusals, 14 to 17).
use Rattle.std.specs.Prelude.{ℕ, ◌+◌, ◌*◌, ◌≤◌, ◌<◌, List, [], ◌∷◌, ◌++◌, ◌↔◌, ◌≡◌, length, drop}
use Rattle.text.specs.Rfc3629.{Utf8}
use Rattle.layout.specs.Layout.{Leaf, plain, string, Layout, Value, leaves, Meets, bound, Proper}
use Rattle.layout.specs.Written.{bytes, row_width, sort_number, text_sort, sort_at, offset_at, value_at}
use Rattle.layout.specs.Answers.{limit, whole_rows}
use Rattle.table.specs.Answers.{Total, counted, uncounted}
use Rattle.writing.specs.Rows.{lent_at}

-- A row gives a leaf: the sort is the leaf's, and so is the value or, for a text row, the lent bytes
abbrev pub RowGives : (rows text : List ℕ) → (row : ℕ) → Leaf → Type 0
RowGives rows text i (plain srt n) = (sort_at rows i ≡ sort_number srt) × (value_at rows i ≡ n)
RowGives rows text i (string t) = (sort_at rows i ≡ text_sort) × (lent_at rows text i ≡ t)

-- Q holds of each leaf with its row, the first of which is row i
abbrev pub Along : (Q : ℕ → Leaf → Type 0) → (row : ℕ) → List Leaf → Type 0
Along Q i [] = Unit {0}
Along Q i (x ∷ ls) = Q i x × Along Q (i + 1) ls

-- A number fits its bytes. Texts are judged later
abbrev pub Sized : Leaf → Type 0
Sized (plain srt n) = n < bound srt
Sized (string t) = Unit {0}

-- A form in which rows are written: its values, and the leaves and the bytes of each
pub record Form : Type 1 where
  pub Content : Type 0
  -- its numbers fit their bytes, and each judge finds it fine
  pub Allowed : Content → Type 0
  -- it derives its bytes
  pub Proper : Content → Type 0
  pub leaves : Content → List Leaf
  pub bytes : Content → List ℕ

-- One value of a layout
abbrev pub alone : Layout → Form
alone L = record { Content = Value L; Allowed = Meets Sized L; Proper = Proper L; leaves = leaves L; bytes = bytes L }

-- The rows spell exactly one value: they are whole rows, one for each of its leaves
pub record Spells (F : Form) (rows text : List ℕ) (v : F.Content) : Type 0 where
  pub allowed : F.Allowed v
  pub whole : length rows ≡ row_width * length (F.leaves v)
  pub give : Along (RowGives rows text) 0 (F.leaves v)

-- A text row is within the lent bytes, and those are valid UTF-8
abbrev pub GoodText : (rows text : List ℕ) → (row : ℕ) → Type 0
GoodText rows text i = (offset_at rows i + value_at rows i ≤ length text) × Utf8 (lent_at rows text i)

-- Each text row is good
abbrev pub GoodTexts : (rows text : List ℕ) → Type 0
GoodTexts rows text = (i : ℕ) → i < whole_rows rows → sort_at rows i ≡ text_sort → GoodText rows text i

-- A refusal of a writing, for a destination of a given size; its place is 0
pub data WriteRefusal (F : Form) (rows text : List ℕ) (size : ℕ) : (number : ℕ) → Type 0 where
  not_spelled : ((v : F.Content) → Spells F rows text v → ⊥) → WriteRefusal F rows text size 14
  bad_text : (v : F.Content) (i : ℕ) → Spells F rows text v → i < whole_rows rows → sort_at rows i ≡ text_sort → (GoodText rows text i → ⊥) → WriteRefusal F rows text size 15
  too_long : (v : F.Content) → Spells F rows text v → GoodTexts rows text → limit < length (F.bytes v) → WriteRefusal F rows text size 16
  no_space : (v : F.Content) → Spells F rows text v → GoodTexts rows text → length (F.bytes v) ≤ limit → size < length (F.bytes v) → WriteRefusal F rows text size 17

-- The value v can be written: the rows spell it, its texts are good, and it is not too long
pub record Writable (F : Form) (rows text : List ℕ) (v : F.Content) : Type 0 where
  pub spells : Spells F rows text v
  pub texts : GoodTexts rows text
  pub small : length (F.bytes v) ≤ limit

-- The contract of measuring, in terms of what the rows spell. 17 does not occur: the destination has the limit's size
pub record ExactLength (F : Form) (rows text : List ℕ) (answer : Total) : Type 0 where
  -- a length is answered exactly if the rows spell a value that can be written; it is the length of the bytes that the value
  -- derives
  pub accepts : (n : ℕ) → (answer ≡ counted n) ↔ (v : F.Content) × Writable F rows text v × (n ≡ length (F.bytes v))
  -- each refusal is answered exactly under its condition, at place 0
  pub refuses : (n p : ℕ) → (answer ≡ uncounted n p) ↔ WriteRefusal F rows text limit n × (p ≡ 0)
  -- a value that can be written is proper: a derivation
  pub proper : (v : F.Content) → Writable F rows text v → F.Proper v

-- The contract of writing, in terms of what the rows spell: `answer` is the length or a refusal, and `after` the destination
-- afterwards
pub record ExactWriting (F : Form) (rows text dest : List ℕ) (answer : Total) (after : List ℕ) : Type 0 where
  -- a length is answered exactly if the rows spell a value that can be written and the destination has space; it is the length
  -- of the bytes that the value derives
  pub accepts : (n : ℕ) → (answer ≡ counted n) ↔ (v : F.Content) × Writable F rows text v × (n ≡ length (F.bytes v)) × (n ≤ length dest)
  -- then the destination has those bytes, and after them what was there
  pub stores : (v : F.Content) → Writable F rows text v → length (F.bytes v) ≤ length dest → after ≡ F.bytes v ++ drop (length (F.bytes v)) dest
  -- each refusal is answered exactly under its condition, at place 0
  pub refuses : (n p : ℕ) → (answer ≡ uncounted n p) ↔ WriteRefusal F rows text (length dest) n × (p ≡ 0)
  -- then the destination is unchanged
  pub keeps : (n p : ℕ) → answer ≡ uncounted n p → after ≡ dest
  -- a value that can be written is proper: a derivation
  pub proper : (v : F.Content) → Writable F rows text v → F.Proper v
