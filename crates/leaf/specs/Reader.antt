-- What a reader means, as a pass over the leaves of a layout.
use Rattle.std.specs.Prelude.{ℕ, ◌+◌, ◌≡◌, List, slice_index}
use Rattle.std.specs.Borrow.{GName}
use Rattle.pass.specs.Pass.{Meaning}
use Rattle.leaf.specs.declared.Reader.{Reader}
use Rattle.leaf.specs.declared.Cursor as declared
use Rattle.reading.specs.State.{Cursor, ReadState, read_state, refused_once}
use Rattle.reading.specs.Run.{reader}

-- A cursor that was kept
abbrev pub cursor_kept : declared.Cursor → Cursor
cursor_kept c = record { at = c.at; rows = c.rows; refusal = c.refusal; value = c.value }

-- Its cursor
abbrev pub cursor_of : Reader → Cursor
cursor_of r = record { at = r.at; rows = r.rows; refusal = r.refusal; value = r.value }

-- Its cursor with its table
abbrev pub state_of : Reader → ReadState
state_of r = read_state (cursor_of r) r.t.now

-- What it is lent: the bytes, and which table
abbrev pub lent_of : Reader → List ℕ × GName
lent_of r = (r.s.now, r.t.ghost_name)

-- A reading of its bytes into its table
abbrev pub reader_meaning : Meaning Reader
reader_meaning = record {
  State = ReadState;
  Lent = List ℕ × GName;
  state = state_of;
  lent = lent_of;
  machine = λ x. reader x.0;
  place = λ st. st.cursor.at;
  refused = λ st. st.cursor.refusal ≡ 0 → ⊥;
  after_refusal = λ number place st. read_state (refused_once number place st.cursor) st.table;
  seen = λ x begin index. slice_index x.0 (begin + index);
}
