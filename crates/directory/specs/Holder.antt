-- What holds a byte of a section (docs/FORMAT.md, What holds a byte).
use Rattle.std.specs.Prelude.{ℕ, ◌+◌, Bool, cond, ◌&&◌, List, [], ◌∷◌, leb, ltb, Option, None, Some, Result, Ok, Err}
use Rattle.layout.specs.Reading.{Outcome, ok, refuse}
use Rattle.section.specs.Derivation.{Placed}
use Rattle.section.specs.Section.{read_section}
use Rattle.directory.specs.Directory.{records_from}
use Rattle.directory.specs.declared.Record.{Record}
use Rattle.table.specs.declared.Refusal.{Refusal}

-- A position is in the entry of a record
abbrev pub contains : Record → (position : ℕ) → Bool
contains r position = leb r.start position && ltb position (r.start + r.length)

-- What holds a byte: the entity with an index; nothing; or a refusal's number and place
pub data ByteHolder : Type 0 where
  holder : (index : ℕ) → ByteHolder
  unheld : ByteHolder
  unread : (number place : ℕ) → ByteHolder

-- The first of some records whose entry contains a position; the first of them has an index
abbrev pub holder_from : (index : ℕ) → List Record → (position : ℕ) → ByteHolder
holder_from index [] position = unheld
holder_from index (r ∷ rs) position = cond (contains r position) (holder index) (holder_from (index + 1) rs position)

-- By the outcome of reading the section, whose refusals are 1 to 12
abbrev pub holder_in : Outcome ℕ (List Placed) → (position : ℕ) → ByteHolder
holder_in (ok es end) position = holder_from 0 (records_from 0 es) position
holder_in (refuse n p) position = unread n p

-- What holds the byte at a position of a section
unfoldable pub entity_at : List ℕ → (position : ℕ) → ByteHolder
entity_at s position = holder_in (read_section s) position

-- Each case of the code's answer
abbrev pub holder_of : Result (Option ℕ) Refusal → ByteHolder
holder_of (Ok None) = unheld
holder_of (Ok (Some index)) = holder index
holder_of (Err refusal) = unread refusal.number refusal.place
