-- The rows given to a writer, with the lent text bytes, as a source of leaves.
use Rattle.std.specs.Prelude.{ℕ, zero, suc, ◌+◌, Bool, true, cond, ◌&&◌, List, eqb, ltb, leb, length, take, drop}
use Rattle.layout.specs.Layout.{Sort, bound}
use Rattle.layout.specs.Written.{sort_number, text_sort, sort_at, offset_at, value_at}
use Rattle.layout.specs.Reading.{Outcome, ok, need, Source, utf8}
use Rattle.layout.specs.Answers.{whole_rows}

-- There is a row, and it has a given sort
abbrev pub is_row : (rows : List ℕ) → (row sort : ℕ) → Bool
is_row rows i sort = ltb i (whole_rows rows) && eqb (sort_at rows i) sort

-- A leaf that holds a number, from a row of its sort with a value that fits
abbrev pub plain_in : (rows : List ℕ) → Sort → (row : ℕ) → Outcome ℕ ℕ
plain_in rows srt i =
    need (is_row rows i (sort_number srt)) 14 0
    (need (ltb (value_at rows i) (bound srt)) 14 0
    (ok (value_at rows i) (i + 1)))

-- The text bytes that a row gives: as many as its value says, from its offset on
abbrev pub lent_at : (rows text : List ℕ) → (row : ℕ) → List ℕ
lent_at rows text i = take (value_at rows i) (drop (offset_at rows i) text)

-- A text, from a row of its sort
abbrev pub text_in : (rows text : List ℕ) → (row : ℕ) → Outcome ℕ (List ℕ)
text_in rows text i = need (is_row rows i text_sort) 14 0 (ok (lent_at rows text i) (i + 1))

-- Rows as a source: a position is the number of rows taken. Only the offsets of text rows are read
abbrev pub in_rows : (rows text : List ℕ) → Source
in_rows rows text = record { Position = ℕ; take_plain = plain_in rows; take_text = text_in rows text; place = λ i. 0 }

-- A text row is within the lent bytes
abbrev pub stays_at : (rows text : List ℕ) → (row : ℕ) → Bool
stays_at rows text i = leb (offset_at rows i + value_at rows i) (length text)

-- 15: a text row is within the lent bytes, and its bytes are valid UTF-8. Any other row counts as good
abbrev pub good_at : (rows text : List ℕ) → (row : ℕ) → Bool
good_at rows text i = cond (eqb (sort_at rows i) text_sort) (stays_at rows text i && utf8 (lent_at rows text i)) true

-- The first n rows are good
abbrev pub good_rows : (rows text : List ℕ) → (n : ℕ) → Bool
good_rows rows text zero = true
good_rows rows text (suc n) = good_rows rows text n && good_at rows text n
