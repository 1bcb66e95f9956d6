-- Lines: how they are made, how long they are, and the rows' lines one after the other.
use Rattle.std.proofs.Common.{◌≡◌, true, refl, sym, ap, ◌∙◌, ℕ, zero, suc, ◌+◌, ◌*◌, ◌/◌, ◌^◌, ◌≤◌, ◌<◌, List, [], ◌∷◌, ◌++◌, arith, append_assoc, append-nil, drop, length, length-append, map, take}
use Rattle.std.proofs.lemmas.List.{drop-drop}
use Rattle.std.proofs.Math.Seq.{drop-cons}
use borrow.Author.Tests.{le-leb, lt-leb}
use Rattle.decimal.specs.Ascii.{ascii}
use Rattle.decimal.specs.Decimal.{decimal}
use Rattle.decimal.proofs.Numeral.{most_32, most_64}
use Rattle.layout.specs.Written.{row_width, sort_at, offset_at, value_at}
use Rattle.layout.specs.Answers.{accepted, refused, Result, whole_rows}
use Rattle.table.specs.declared.Counts.{Counts}
use Rattle.table.specs.declared.Row.{Row}
use Rattle.table.specs.Table.{row_of}
use Rattle.table.proofs.Rows.{row_there}
use Rattle.section.specs.Section.{reading}
use Rattle.section.specs.Demand3.{Demand3}
use Rattle.listing.specs.Listing.{most_bytes, lent_table, further, line, long_line, refusal_line, row_lines, lines, listing}
use Rattle.listing.specs.Private.{most_line}

-- A line of three words, made word by word
pub line_made : (w a b : List ℕ) → w ++ ascii " " ++ a ++ ascii " " ++ b ++ ascii "\n" ≡ line (w ∷ a ∷ b ∷ [])
unfolding line further
line_made w a b = simp append_assoc

pub line_length : (w a b : List ℕ) → length (line (w ∷ a ∷ b ∷ [])) ≡ length w + length a + length b + 3
line_length w a b = ap length (sym (line_made w a b)) ∙ simp length-append (omega arith)

-- It fits
pub word_fits : (w : List ℕ) (a b : ℕ) → length w ≤ 6 → a < 2 ^ 64 → b < 2 ^ 64 → length (line (w ∷ decimal a ∷ decimal b ∷ [])) ≤ most_line
word_fits w a b l h k = omega (arith, line_length w (decimal a) (decimal b), most_64 a h, most_64 b k)

pub row_fits : (r : Row) → r.sort < 2 ^ 32 → r.offset < 2 ^ 32 → r.value < 2 ^ 32 → length (line (decimal r.sort ∷ decimal r.offset ∷ decimal r.value ∷ [])) ≤ 33
row_fits r s o v = omega (arith, line_length (decimal r.sort) (decimal r.offset) (decimal r.value), most_32 r.sort s, most_32 r.offset o, most_32 r.value v)

-- The line of a row that the table has
row_taken : (table : List ℕ) (i : ℕ) → row_width * i + 3 ≤ length table
    → take row_width (drop (row_width * i) table) ≡ sort_at table i ∷ offset_at table i ∷ value_at table i ∷ []
row_taken table i h =
    let n = row_width * i in
    let one : n + 1 ≡ suc n = omega arith in
    let two : n + 2 ≡ suc (suc n) = omega arith in
    rw (one, two, drop-cons table n 0 (omega arith), drop-cons table (suc n) 0 (omega arith), drop-cons table (suc (suc n)) 0 (omega arith))

row_line : (table : List ℕ) (i : ℕ) (r : Row) → r ≡ row_of table i → i < whole_rows table
    → line (map decimal (take row_width (drop (row_width * i) table))) ≡ line (decimal r.sort ∷ decimal r.offset ∷ decimal r.value ∷ [])
row_line table i r e h = rw (row_taken table i (omega arith), e, row_there table i h)

-- One more row
rows_more : (i : ℕ) (table : List ℕ) → row_lines (suc i) table ≡ row_lines i table ++ line (map decimal (take row_width (drop (row_width * i) table)))
unfolding row_lines
rows_more zero table = rw append-nil
rows_more (suc i) table =
    let first = line (map decimal (take row_width table)) in
    let e : row_width + row_width * i ≡ row_width * suc i = omega arith in
    ap (λ (l : List ℕ). first ++ l) (rows_more i (drop row_width table))
    ∙ sym (append_assoc first (row_lines i (drop row_width table)) (line (map decimal (take row_width (drop (row_width * i) (drop row_width table))))))
    ∙ rw (drop-drop (row_width * i) row_width table, e)

pub next_row : (before table : List ℕ) (i : ℕ) (r : Row) → r ≡ row_of table i → i < whole_rows table
    → before ++ row_lines i table ++ line (decimal r.sort ∷ decimal r.offset ∷ decimal r.value ∷ []) ≡ before ++ row_lines (i + 1) table
next_row before table i r e h =
    let s : i + 1 ≡ suc i = omega arith in
    rw (s, rows_more i table, row_line table i r e h, append_assoc)

-- The line of one word
pub long_made : ascii "long\n" ≡ long_line
unfolding line further
long_made = refl

-- The lines of an acceptance
abbrev pub accept_line : Counts → List ℕ
accept_line counts = line (ascii "accept" ∷ decimal counts.entities ∷ decimal counts.rows ∷ [])

pub accepted_made : (counts : Counts) (table : List ℕ) → accept_line counts ++ row_lines counts.rows table ≡ lines (accepted counts.entities counts.rows) table
unfolding lines
accepted_made counts table = refl

-- No row yet
pub no_row : (before table : List ℕ) → before ≡ before ++ row_lines 0 table
unfolding row_lines
no_row before table = rw append-nil

-- The line of a refusal
pub refused_made : (number at : ℕ) (table : List ℕ) → lines (refused number at) table ≡ refusal_line number at
unfolding lines
refused_made number at table = refl

-- The rows of an accepted result are in its table
pub rows_there : (s table : List ℕ) (r : Result) → Demand3 s table r → length r.table ≡ length table → r.answer.accepts ≡ true → r.answer.rows ≤ whole_rows r.table
rows_there s table r d l e =
    let (x, g, h) = d.exact.accepts.0 e in
    omega (arith, ap (λ (o : Result). o.answer.rows) (d.exact.fits x g h), ap (λ (n : ℕ). n / row_width) l)

-- The two cases of a listing
pub long_listing : (s : List ℕ) → most_bytes < length s → listing s ≡ long_line
unfolding listing
long_listing s h = rw (lt-leb (length s) most_bytes h)

pub read_listing : (s : List ℕ) (r : Result) → length s ≤ most_bytes → r ≡ reading s lent_table → listing s ≡ lines r.answer r.table
unfolding listing
read_listing s r h e = rw (le-leb (length s) most_bytes h, ← e)
