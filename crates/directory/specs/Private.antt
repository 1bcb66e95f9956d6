-- What only the private functions of the crate promise one another. No public contract cites anything here.
use Rattle.std.specs.Prelude.{ℕ, zero, suc, ◌+◌, ◌-◌, ◌≤◌, ◌<◌, Bool, true, false, cond, ◌&&◌, List, [], ◌∷◌, ◌≡◌, eqb, leb, ltb, length, set, Result, Ok, Err}
use Rattle.layout.specs.Written.{bytes_of, sort_number}
use Rattle.layout.specs.Layout.{Kind}
use Rattle.layout.specs.Entities.{value_in}
use Rattle.layout.specs.Answers.{limit}
use Rattle.layout.specs.Theorems.{Bytes}
use Rattle.raw_bytes.specs.Bytes.{number_or0}
use Rattle.table.specs.Table.{row_of}
use Rattle.table.specs.declared.Counts.{Counts}
use Rattle.table.specs.declared.Refusal.{Refusal}
use Rattle.reading.specs.State.{ReadState}
use Rattle.section.specs.Derivation.{Placed, placed}
use Rattle.section.specs.Rest.{Rest}
use Rattle.section.specs.Entry.{Stage}
use Rattle.section.specs.Private.{Walks}
use Rattle.directory.specs.declared.Seen.{Seen}
use Rattle.directory.specs.declared.Boundary.{Boundary}
use Rattle.directory.specs.declared.Record.{Record}
use Rattle.directory.specs.Directory.{record_of, records_from, directory_of}
use Rattle.directory.specs.Holder.{ByteHolder, holder, unheld, unread, holder_from}

-- h is what holds a position of a derived section
abbrev pub IsHolder : List ℕ → (position : ℕ) → ByteHolder → Type 0
IsHolder s position h = (w : Rest s 0) → h ≡ holder_from 0 (records_from 0 (placed 0 w.derivation.items)) position

-- The boundary at which a reading stands
abbrev pub boundary : Stage → Boundary
boundary g = record { at = g.state.cursor.at; entities = g.entities }

-- Whether an entry was read from a boundary on
abbrev pub entry_read : Boundary → ReadState → Bool
entry_read b st = eqb st.cursor.refusal 0 && ltb b.at st.cursor.at

-- What is seen after the entry between two boundaries, which counts if it starts at or before the position
abbrev pub seen_after : Seen → (b c : Boundary) → (position : ℕ) → Seen
seen_after seen b c position = cond (ltb position b.at) seen (record { index = b.entities; next = c.entities; end = c.at })

-- The entity of what was seen, if there is one and its entry contains the position
abbrev pub held_by : Seen → (position : ℕ) → ByteHolder
held_by seen position = cond (leb seen.next seen.index) unheld (cond (leb seen.end position) unheld (holder seen.index))

-- The answer at the end
abbrev pub held_in : ReadState → Seen → (position : ℕ) → ByteHolder
held_in st seen position =
    let c = st.cursor in
    cond (eqb c.refusal 0) (held_by seen position) (unread c.refusal c.at)

-- Entries are read up to a boundary, through some table, and nothing is read there, or a refusal. Without a refusal, what was seen
-- tells what holds the position
pub record Looked (s : List ℕ) (position at : ℕ) (g : Stage) (seen : Seen) : Type 0 where
  pub table : List ℕ
  pub walks : Walks s table at g
  pub held : g.state.cursor.refusal ≡ 0 → IsHolder s position (held_by seen position)

-- The offset of a row is past a start and not past an end. A row that the table does not have has the offset 0, past no start
abbrev pub row_within : List ℕ → (start end row : ℕ) → Bool
row_within t start end row = ltb start (row_of t row).offset && leb (row_of t row).offset end

-- Of the rows from the first on, exactly those before the next are within an entry
pub record EntryRows (t : List ℕ) (start end first next : ℕ) : Type 0 where
  pub some : first < next
  pub inside : (row : ℕ) → first ≤ row → row < next → row_within t start end row ≡ true
  pub beyond : (row : ℕ) → next ≤ row → row_within t start end row ≡ false

-- A guess is at the first of such rows or after it
pub record Guessed (t : List ℕ) (guess start end : ℕ) : Type 0 where
  pub first : ℕ
  pub next : ℕ
  pub rows : EntryRows t start end first next
  pub low : first ≤ guess

-- x is the row after them
abbrev pub RowsEnd : (t : List ℕ) (guess start end x : ℕ) → Type 0
RowsEnd t guess start end x = (g : Guessed t guess start end) → x ≡ g.next

-- An entity whose entry is in s, and whose rows are in t from a row on
pub record EntityIn (s t : List ℕ) (row : ℕ) (e : Placed) : Type 0 where
  pub begins : 4 ≤ e.at
  pub ends : e.at + length (bytes_of e.content) ≤ limit
  pub size : number_or0 s (e.at - 4) ≡ length (bytes_of e.content)
  pub few : row + length e.content ≤ limit
  pub kind : row_of t row ≡ record { sort = sort_number Kind; offset = e.at; value = value_in e.content 0 }
  pub rows : EntryRows t (e.at - 4) (e.at + length (bytes_of e.content)) row (row + length e.content)

-- The first row after those of a record
abbrev pub row_after : Record → ℕ
row_after r = r.first_row + r.row_count

-- After the rows of a record come those of an entity
pub record Between (s t : List ℕ) (r : Record) : Type 0 where
  pub next : Placed
  pub there : EntityIn s t (row_after r) next

-- n is the record of that entity
abbrev pub After : (s t : List ℕ) (r n : Record) → Type 0
After s t r n = (b : Between s t r) → n ≡ record_of (row_after r) b.next

-- What stands before the first record
abbrev pub zeros : Record
zeros = record { kind = 0; start = 0; length = 0; first_row = 0; row_count = 0 }

-- The record before the one at an index, with r before the first
abbrev pub record_before : (r : Record) → List Record → (index : ℕ) → Record
record_before r rs zero = r
record_before r [] (suc i) = r
record_before r (x ∷ rs) (suc i) = record_before x rs i

-- A lent list with the first n of some records at its start
abbrev pub records_put : (records : List Record) → (n : ℕ) → (list : List Record) → List Record
records_put rs zero list = list
records_put rs (suc n) list = set (records_put rs n list) n (record_before zeros rs (suc n))

-- The first n records of a section can be found one after the other, and there is room for them
pub record Ready (s t : List ℕ) (n room : ℕ) : Type 0 where
  pub bytes : Bytes s
  pub fits : n ≤ room
  pub between : (i : ℕ) → i < n → Between s t (record_before zeros (directory_of s) i)
  pub next : (i : ℕ) → i < n → (x : Record) → After s t (record_before zeros (directory_of s) i) x → x ≡ record_before zeros (directory_of s) (i + 1)

-- The number of entities of the code's answer, 0 after a refusal
abbrev pub entity_count : Result Counts Refusal → ℕ
entity_count (Ok counts) = counts.entities
entity_count (Err refusal) = 0
