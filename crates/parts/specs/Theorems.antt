-- The theorems about the definitions, as statements. Each comment names the proof, in proofs/.
use Rattle.std.specs.Prelude.{ℕ, ◌≤◌, List, [], ◌∷◌, ◌++◌, ◌↔◌, ◌≡◌, length, drop}
use Rattle.decimal.specs.Ascii.{ascii}
use Rattle.layout.specs.Layout.{string, text}
use Rattle.layout.specs.Written.{row_at}
use Rattle.layout.specs.Reading.{Outcome, ok, read}
use Rattle.layout.specs.Answers.{limit}
use Rattle.table.specs.declared.Row.{Row}
use Rattle.place.specs.Place.{part_of}
use Rattle.parts.specs.Parts.{row_text, kept_name, kept_name_in, ExactKeptName, sql_name, sql_name_in}
use Rattle.parts.specs.Names.{SqlStart, name_start, ExactStart, Standing, unbegun, most_held, walked_over, walk_answer}

-- The text of a row lies in the bytes: `row_lies` in RowText.antt
abbrev pub RowLies : Type 0
RowLies = (s : List ℕ) (row : Row) (start end : ℕ) → row_text s row ≡ ok start end → (start ≤ end) × (end ≤ length s)

-- The row of a text that was read gives that text: `row_part` in RowText.antt
abbrev pub RowPart : Type 0
RowPart =
    (s : List ℕ) → length s ≤ limit → (at : ℕ) (t : List ℕ) (end : ℕ) → read text s at ≡ ok (string t ∷ []) end
    → (row : Row) → row.sort ∷ row.offset ∷ row.value ∷ [] ≡ row_at at (string t) → part_of s (row_text s row) ≡ t

-- The kept name is a part of the bytes: `kept_part` in KeptName.antt
abbrev pub KeptPart : Type 0
KeptPart = (s : List ℕ) (row : Row) → part_of s (kept_name_in s (row_text s row)) ≡ kept_name (part_of s (row_text s row))

-- The two forms of the kept name of a row are one: `kept_name_exact` in KeptName.antt
abbrev pub KeptNameExact : Type 0
KeptNameExact = (s : List ℕ) (row : Row) (o : Outcome ℕ ℕ) → (o ≡ kept_name_in s (row_text s row)) ↔ ExactKeptName s row o

-- The SQL name is the end of the name: `name_end` in SqlName.antt
abbrev pub NameEnd : Type 0
NameEnd = (name : List ℕ) → (start : ℕ) × (start ≤ length name) × (sql_name name ≡ drop start name)

-- The part that the SQL name is: `name_part` in SqlName.antt
abbrev pub NamePart : Type 0
NamePart = (s : List ℕ) (row : Row) → part_of s (sql_name_in s (row_text s row)) ≡ sql_name (part_of s (row_text s row))

-- Three examples: `name_cases` in SqlName.antt
abbrev pub NameCases : Type 0
NameCases =
    (sql_name (ascii "a:::b") ≡ ascii ":b") × (sql_name (ascii "a::") ≡ []) × (sql_name (ascii "ab") ≡ ascii "ab")

-- The two forms of the answer for a name are one: `start_exact` in Names.antt
abbrev pub StartExact : Type 0
StartExact = (name : List ℕ) (a : SqlStart) → (a ≡ name_start name) ↔ ExactStart name a

-- Walking over two parts, from wherever, is walking over the first, and from there over the second, wherever the cut is:
-- `walk_append` in Names.antt
abbrev pub WalkAppend : Type 0
WalkAppend = (w : Standing) (l m : List ℕ) → walked_over w (l ++ m) ≡ walked_over (walked_over w l) m

-- A walk over a whole name gives the answer for the name: `walk_answer_lem` in Names.antt
abbrev pub WalkAnswer : Type 0
WalkAnswer = (name : List ℕ) → length name ≤ most_held → walk_answer (walked_over unbegun name) ≡ name_start name

-- A walk over a first part, and from there over the rest, gives the answer for the whole name, wherever the cut is: `walk_parts` in
-- Names.antt
abbrev pub WalkParts : Type 0
WalkParts =
    (first rest : List ℕ) → length (first ++ rest) ≤ most_held
    → walk_answer (walked_over (walked_over unbegun first) rest) ≡ name_start (first ++ rest)
