-- What an entry writer means, as a pass over the leaves of a layout.
use Rattle.std.specs.Prelude.{ℕ, ◌+◌, ◌≡◌, List}
use Rattle.table.specs.Table.{row_of}
use Rattle.pass.specs.Pass.{Meaning}
use Rattle.writing.specs.State.{WriteState, stopped_once}
use Rattle.writing.specs.Run.{writer}
use Rattle.entry_writer.specs.declared.EntryWriter.{EntryWriter}

-- Its state
abbrev pub state_of : EntryWriter → WriteState
state_of w = record { row = w.row; pos = w.pos; value = w.value; refusal = w.refusal; bad = w.bad }

-- What it is lent: the rows and the text bytes
abbrev pub lent_of : EntryWriter → List ℕ × List ℕ
lent_of w = (w.rows.now, w.text.now)

-- A writing from what it is lent
abbrev pub writer_meaning : Meaning EntryWriter
writer_meaning = record {
  State = WriteState;
  Lent = List ℕ × List ℕ;
  state = state_of;
  lent = lent_of;
  machine = λ x. writer x.0 x.1;
  place = λ st. st.row;
  refused = λ st. st.refusal ≡ 0 → ⊥;
  after_refusal = λ number place st. stopped_once st;
  seen = λ x begin index. (row_of x.0 (begin + index)).value;
}
