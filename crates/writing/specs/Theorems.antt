-- The theorems about the definitions, as statements, for every layout. Each comment names the proof, in proofs/.
use Rattle.std.specs.Prelude.{ℕ, ◌*◌, ◌≤◌, ◌<◌, List, ◌↔◌, ◌≡◌, length, get_or, take}
use Rattle.layout.specs.Layout.{Layout, Value, Proper}
use Rattle.layout.specs.Written.{bytes, row_width, text_sort, sort_at, offset_at, value_at}
use Rattle.layout.specs.Reading.{ok, refuse}
use Rattle.layout.specs.Answers.{limit, accepted, Result, whole_rows}
use Rattle.layout.specs.ReadAlone.{reading_alone}
use Rattle.layout.specs.Theorems.{Bytes}
use Rattle.writing.specs.Rows.{lent_at}
use Rattle.writing.specs.Writing.{measured, write, length_in, written}
use Rattle.writing.specs.Refusals.{alone, Spells, GoodTexts, WriteRefusal, Writable, ExactLength, ExactWriting}

-- What is written is what the value spelled by the rows derives, if its texts are good, its length is at most the limit and the
-- destination has space; and every such value is written: `write_exact` in Exact.antt
abbrev pub WriteExact : Type 0
WriteExact =
    (L : Layout) (rows text : List ℕ) (size : ℕ) (b : List ℕ) (n : ℕ)
    → (write L rows text size ≡ ok b n)
    ↔ ((v : Value L) × Writable (alone L) rows text v × (b ≡ bytes L v) × (n ≡ length b) × (n ≤ size))

-- That value is proper: `spells_proper` in Spelled.antt
abbrev pub SpellsProper : Type 0
SpellsProper =
    (L : Layout) (rows text : List ℕ) (v : Value L) → Spells (alone L) rows text v → GoodTexts rows text → length (bytes L v) ≤ limit → Proper L v

-- No rows spell two values: `spells_unique` in Spelled.antt
abbrev pub SpellsUnique : Type 0
SpellsUnique = (L : Layout) (rows text : List ℕ) (v w : Value L) → Spells (alone L) rows text v → Spells (alone L) rows text w → v ≡ w

-- Each refusal is answered exactly under its condition: `write_refused` in Exact.antt
abbrev pub WriteRefused : Type 0
WriteRefused =
    (L : Layout) (rows text : List ℕ) (size n p : ℕ) → (write L rows text size ≡ refuse n p) ↔ (WriteRefusal (alone L) rows text size n × (p ≡ 0))

-- Measuring meets its contract in terms of what the rows spell: `exact_length` in Exact.antt
abbrev pub LengthExact : Type 0
LengthExact = (L : Layout) (rows text : List ℕ) → ExactLength (alone L) rows text (length_in (measured L rows text))

-- So does writing: `exact_writing` in Exact.antt
abbrev pub WritingExact : Type 0
WritingExact =
    (L : Layout) (rows text dest : List ℕ)
    → ExactWriting (alone L) rows text dest (length_in (write L rows text (length dest))) (written (write L rows text (length dest)) dest)

-- A row of another table is the same, except for the offset if it is not a text row
pub record SameRow (rows other : List ℕ) (i : ℕ) : Type 0 where
  pub sorts : sort_at other i ≡ sort_at rows i
  pub values : value_at other i ≡ value_at rows i
  pub offsets : sort_at rows i ≡ text_sort → offset_at other i ≡ offset_at rows i

-- Only the offsets of text rows are read: `offset_free` in Offsets.antt
abbrev pub OffsetFree : Type 0
OffsetFree =
    (L : Layout) (rows other text : List ℕ) (size : ℕ) → length other ≡ length rows → ((i : ℕ) → i < whole_rows rows → SameRow rows other i)
    → write L other text size ≡ write L rows text size

-- A reading of bytes returns the rows from which they were written, except for offsets, and for each text row the same bytes
pub record ReadsBack (rows text b : List ℕ) (entities : ℕ) (r : Result) : Type 0 where
  pub answer : r.answer ≡ accepted entities (whole_rows rows)
  pub sorts : (i : ℕ) → i < whole_rows rows → sort_at r.table i ≡ sort_at rows i
  pub values : (i : ℕ) → i < whole_rows rows → value_at r.table i ≡ value_at rows i
  pub texts : (i : ℕ) → i < whole_rows rows → sort_at rows i ≡ text_sort → lent_at r.table b i ≡ lent_at rows text i
  pub zeros : (k : ℕ) → row_width * whole_rows rows ≤ k → get_or r.table k 0 ≡ 0

-- Reading what was written, given enough rows: `read_written` in RoundTrips.antt
abbrev pub ReadWritten : Type 0
ReadWritten =
    (L : Layout) (entities : ℕ) (rows text : List ℕ) (size : ℕ) (b : List ℕ) (n : ℕ) → write L rows text size ≡ ok b n
    → (table : List ℕ) → whole_rows rows ≤ whole_rows table → ReadsBack rows text b entities (reading_alone L entities b table)

-- Writing what was read, given enough space, from the rows that the reading stored, with the bytes read as the lent text:
-- `write_read` in RoundTrips.antt
abbrev pub WriteRead : Type 0
WriteRead =
    (L : Layout) (entities : ℕ) (s : List ℕ) → Bytes s → (table : List ℕ) (r : Result) (n : ℕ)
    → r ≡ reading_alone L entities s table → r.answer ≡ accepted entities n
    → (size : ℕ) → length s ≤ size → write L (take (row_width * n) r.table) s size ≡ ok s (length s)
