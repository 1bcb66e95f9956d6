-- The result of taking a row, from the tests on it.
use Prim.Native.Nat.{ℕ, min, ◌+◌, ◌-◌, ◌≤◌, ◌<◌}
use native.Mathlib.Omega.{arith}
use mathlib.Core.Bool.{Bool, true, false}
use mathlib.Core.List.{List}
use mathlib.Core.Path.{◌≡◌, refl, sym, ap, ◌∙◌}
use lib.Dec.{leb}
use lib.ListN.{length, take, drop, length-append, length-drop}
use lib.Seq.{length-take-le}
use borrow.Author.Tests.{leb-true, leb-false}
use Rattle.layout.specs.Layout.{Sort, Kind, Tag, Flag, Number, Count, string}
use Rattle.layout.specs.Written.{text_sort, four, plain_bytes, leaf_bytes, offset_at, value_at}
use Rattle.layout.specs.Reading.{Outcome, ok, refuse}
use Rattle.layout.specs.Answers.{whole_rows}
use Rattle.table.specs.declared.Row.{Row}
use Rattle.table.specs.Table.{row_of}
use Rattle.table.proofs.Rows.{row_none, offset_there, value_there}
use Rattle.writing.specs.Rows.{is_row, lent_at, stays_at}
use Rattle.writing.specs.State.{WriteState, arrive_plain}
use Rattle.writing.proofs.Spelled.{is_row_lem}
use Rattle.entry_writer.specs.Private.{take_number}

-- A number that is taken is a leaf of its sort
pub take_sort : (srt : Sort) (o : Outcome ℕ ℕ) (w : WriteState) → take_number (length (plain_bytes srt 0)) o w ≡ arrive_plain srt o w
take_sort Kind (ok n next) w = refl
take_sort Tag (ok n next) w = refl
take_sort Flag (ok n next) w = refl
take_sort Number (ok n next) w = refl
take_sort Count (ok n next) w = refl
take_sort srt (refuse n p) w = refl

-- A row of a given sort is one of the whole rows
module _ (rows : List ℕ) (i sort : ℕ) {t : Bool} (e : t ≡ is_row rows i sort) (h : t ≡ true) where
  pub row_inside : i < whole_rows rows
  row_inside = (is_row_lem rows i sort (sym e ∙ h)).0

  pub row_offset : {row : Row} → row ≡ row_of rows i → row.offset ≡ offset_at rows i
  row_offset g = offset_there rows i row_inside g

  pub row_value : {row : Row} → row ≡ row_of rows i → row.value ≡ value_at rows i
  row_value g = value_there rows i row_inside g

-- A text row is within the lent bytes, or not
module _ (rows text : List ℕ) (i : ℕ) {t : Bool} (e : t ≡ is_row rows i text_sort) (h : t ≡ true) {row : Row} (g : row ≡ row_of rows i) where
  pub text_stays : {s : Bool} → s ≡ leb (row.offset + row.value) (length text) → stays_at rows text i ≡ s
  text_stays b = rw (← row_offset rows i text_sort e h g, ← row_value rows i text_sort e h g) (sym b)

  pub text_lent : lent_at rows text i ≡ take (row.offset + row.value - row.offset) (drop row.offset text)
  text_lent =
      let n : row.value ≡ row.offset + row.value - row.offset = omega arith in
      rw (← row_offset rows i text_sort e h g, ← row_value rows i text_sort e h g) (ap (λ (j : ℕ). take j (drop row.offset text)) n)

  pub text_length : row.offset + row.value ≤ length text → length (take (row.offset + row.value - row.offset) (drop row.offset text)) ≡ row.value
  text_length k = length-take-le _ (drop row.offset text) (omega (arith, length-drop row.offset text)) ∙ omega arith

pub text_size : (bytes : List ℕ) → length (leaf_bytes (string bytes)) ≡ 4 + length bytes
text_size bytes = length-append (four (length bytes)) bytes ∙ omega arith

-- No table has a row at an index that no number of 64 bits gives
pub row_beyond : (rows : List ℕ) (i : ℕ) → length rows < 18446744073709551616 → row_of rows (min i 18446744073709551615) ≡ row_of rows i
row_beyond rows i h = go (leb i 18446744073709551615) refl
  where
    go : (b : Bool) → leb i 18446744073709551615 ≡ b → row_of rows (min i 18446744073709551615) ≡ row_of rows i
    go true e = let k = leb-true _ _ e in ap (row_of rows) (omega arith)
    go false e = let k = leb-false _ _ e in row_none rows (min i 18446744073709551615) (omega arith) ∙ sym (row_none rows i (omega arith))
