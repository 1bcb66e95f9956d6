-- Texts as parts of the bytes given, kept names, and the SQL name of a declaration (docs/FORMAT.md, Texts, SQL names and SQL texts).
use Rattle.std.specs.Prelude.{ℕ, ◌+◌, ◌-◌, ◌≤◌, Bool, cond, ◌&&◌, List, [], ◌∷◌, ◌≡◌, eqb, leb, length, take, drop}
use Rattle.text.specs.Kept.{ServerKeeps, kept_length}
use Rattle.layout.specs.Written.{text_sort}
use Rattle.layout.specs.Reading.{Outcome, ok, refuse, need, utf8, enough}
use Rattle.layout.specs.Answers.{limit}
use Rattle.table.specs.declared.Row.{Row}
use Rattle.place.specs.Place.{between}

-- A row that is a text of the bytes given: it has the sort of a text, it is within the bytes, and they are valid UTF-8 there
abbrev pub is_text : List ℕ → Row → Bool
is_text s row = eqb row.sort text_sort && (enough s row.offset row.value && utf8 (take row.value (drop row.offset s)))

-- The text of a row, by its start and its end: 1; then 15
unfoldable pub row_text : List ℕ → Row → Outcome ℕ ℕ
row_text s row = need (leb (length s) limit) 1 0 (need (is_text s row) 15 0 (ok row.offset (row.offset + row.value)))

-- The kept name of a text: as much of it as the server keeps of a name
abbrev pub kept_name : List ℕ → List ℕ
kept_name t = take (kept_length t) t

-- The kept name of a text that is a part of the bytes given, by its start and end: it starts where the text does
abbrev pub kept_name_in : List ℕ → Outcome ℕ ℕ → Outcome ℕ ℕ
kept_name_in s (ok start end) = ok start (start + kept_length (between s start end))
kept_name_in s (refuse n p) = refuse n p

-- The kept name of a row by conditions: it starts where the row's text does, and the server keeps as many bytes of that text; or the
-- row is refused
abbrev pub ExactKeptName : List ℕ → Row → Outcome ℕ ℕ → Type 0
ExactKeptName s row (ok start end) =
    (row_text s row ≡ ok start (start + row.value)) × (start ≤ end) × ServerKeeps (between s start (start + row.value)) (end - start)
ExactKeptName s row (refuse n p) = row_text s row ≡ refuse n p

-- The byte `:`
abbrev pub colon : ℕ
colon = 58

-- What comes after the last `::`, with matches found from the left without overlap: the search starts again after a match.
-- `last` is what came after the last match so far
abbrev pub after_last : (last : List ℕ) → List ℕ → List ℕ
after_last last [] = last
after_last last (x ∷ []) = last
after_last last (x ∷ y ∷ rest) = cond (eqb x colon && eqb y colon) (after_last rest rest) (after_last last (y ∷ rest))

-- The SQL name of a declaration, from its name: the whole name, if it has no `::`
unfoldable pub sql_name : List ℕ → List ℕ
sql_name name = after_last name name

-- The SQL name of a name that is a part of the bytes given, by its start and end: it ends where the name does
abbrev pub sql_name_in : List ℕ → Outcome ℕ ℕ → Outcome ℕ ℕ
sql_name_in s (ok start end) = ok (end - length (sql_name (between s start end))) end
sql_name_in s (refuse n p) = refuse n p
