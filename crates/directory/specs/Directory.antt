-- The directory of a section (docs/FORMAT.md, The directory): a record for each entity, in a lent list.
use Rattle.std.specs.Prelude.{ℕ, ◌+◌, ◌-◌, cond, List, [], ◌∷◌, ◌++◌, leb, length, drop}
use Rattle.layout.specs.Written.{bytes_of}
use Rattle.layout.specs.Entities.{value_in}
use Rattle.layout.specs.Reading.{Outcome, ok, refuse}
use Rattle.layout.specs.Answers.{Result, refusal}
use Rattle.table.specs.Answers.{result_of}
use Rattle.section.specs.Derivation.{Placed}
use Rattle.section.specs.Section.{read_section, reading}
use Rattle.directory.specs.declared.Record.{Record}
use Rattle.table.specs.declared.Counts.{Counts}
use Rattle.table.specs.declared.Refusal.{Refusal}
use Rattle.std.specs.Prelude as prelude

-- The record of an entity whose first row has an index. Its entry starts 4 bytes before its payload, with the length, and these
-- 4 bytes count
abbrev pub record_of : (row : ℕ) → Placed → Record
record_of row e = record {
  kind = value_in e.content 0;
  start = e.at - 4;
  length = 4 + length (bytes_of e.content);
  first_row = row;
  row_count = length e.content;
}

-- The records of entities, the first of which has its first row at an index
abbrev pub records_from : (row : ℕ) → List Placed → List Record
records_from row [] = []
records_from row (e ∷ es) = record_of row e ∷ records_from (row + length e.content) es

-- The records of what is read, none after a refusal
abbrev pub records_in : Outcome ℕ (List Placed) → List Record
records_in (ok es end) = records_from 0 es
records_in (refuse n p) = []

-- The records of a section
unfoldable pub directory_of : List ℕ → List Record
directory_of s = records_in (read_section s)

-- A result, but 21 if it accepts more entities than there is room for records
abbrev pub fitted : (room : ℕ) → Result → Result
fitted room r = cond (leb r.answer.entities room) r (refusal 21 0 r.table)

-- The plain reading's result, but for 21
unfoldable pub reading_for : List ℕ → (table : List ℕ) → (room : ℕ) → Result
reading_for s table room = fitted room (reading s table)

-- A result, with the whole lent list after it
pub record Listed : Type 0 where
  pub result : Result
  pub list : List Record

-- The list after a result: on acceptance the records are at its start; after a refusal it is unchanged
abbrev pub list_after : Result → (records list : List Record) → List Record
list_after r records list = cond r.answer.accepts (records ++ drop (length records) list) list

-- The reading with a directory
unfoldable pub directory : List ℕ → (table : List ℕ) → (list : List Record) → Listed
directory s table list =
    let r = reading_for s table (length list) in
    record { result = r; list = list_after r (directory_of s) list }

-- The code's answer, with the table and the list after it
abbrev pub listed_of : prelude.Result Counts Refusal → (table : List ℕ) → (list : List Record) → Listed
listed_of a table list = record { result = result_of a table; list = list }
