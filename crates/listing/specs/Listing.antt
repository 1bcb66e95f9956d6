-- The listing of a section, as bytes (docs/FORMAT.md, The listing).
use Rattle.std.specs.Prelude.{ℕ, zero, suc, ◌+◌, ◌*◌, cond, List, [], ◌∷◌, ◌++◌, map, leb, length, take, drop, replicate}
use Rattle.layout.specs.Written.{row_width}
use Rattle.layout.specs.Answers.{Answer, Result}
use Rattle.section.specs.Section.{reading}
use Rattle.decimal.specs.Ascii.{ascii}
use Rattle.decimal.specs.Decimal.{decimal}

-- The most bytes of a section that is listed
abbrev pub most_bytes : ℕ
most_bytes = 65536

-- The number of rows that are lent for its reading
abbrev pub lent_rows : ℕ
lent_rows = 5461

-- The table before the reading
unfoldable pub lent_table : List ℕ
lent_table = replicate (row_width * lent_rows) 0

-- The words of a line after the first one, each after one space; then the line's end
unfoldable pub further : List (List ℕ) → List ℕ
further [] = ascii "\n"
further (w ∷ ws) = ascii " " ++ w ++ further ws

-- A line of words
unfoldable pub line : List (List ℕ) → List ℕ
line [] = ascii "\n"
line (w ∷ ws) = w ++ further ws

-- The line of an input that is too long to be listed
abbrev pub long_line : List ℕ
long_line = line (ascii "long" ∷ [])

-- The line of a refusal
abbrev pub refusal_line : (number place : ℕ) → List ℕ
refusal_line number place = line (ascii "refuse" ∷ decimal number ∷ decimal place ∷ [])

-- A line for each of the first rows of a table
unfoldable pub row_lines : (rows : ℕ) → List ℕ → List ℕ
row_lines zero table = []
row_lines (suc k) table = line (map decimal (take row_width table)) ++ row_lines k (drop row_width table)

-- The lines of an answer with its table
unfoldable pub lines : Answer → List ℕ → List ℕ
lines a table =
    cond a.accepts
    (line (ascii "accept" ∷ decimal a.entities ∷ decimal a.rows ∷ []) ++ row_lines a.rows table)
    (refusal_line a.number a.place)

-- The lines of a result
abbrev pub result_lines : Result → List ℕ
result_lines r = lines r.answer r.table

-- The listing of the bytes s
unfoldable pub listing : List ℕ → List ℕ
listing s = cond (leb (length s) most_bytes) (result_lines (reading s lent_table)) long_line

-- No listing is longer: one line for the counts, of at most 20 digits each, and one for each row, with numbers of at most 10
-- digits
abbrev pub most_listed : ℕ
most_listed = 49 + 11 * row_width * lent_rows

-- The contents of `out` once bytes are put at its start: as many of them as fit, then what was there before
abbrev pub at_start : List ℕ → (out : List ℕ) → List ℕ
at_start bytes out = take (length out) bytes ++ drop (length bytes) out
