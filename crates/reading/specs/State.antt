-- The state of a reading: a cursor, and the table that it fills; and the effect of reading one leaf.
use Rattle.std.specs.Prelude.{ℕ, ◌+◌, ◌*◌, min, Bool, cond, List, [], ◌∷◌, eqb, ltb, leb, length, set}
use Rattle.layout.specs.Layout.{Sort, Leaf, plain, string, leaf_value}
use Rattle.layout.specs.Written.{row_width, row_at}
use Rattle.layout.specs.Reading.{Outcome, ok, refuse, ◌>>=◌, plain_at, text_at}
use Rattle.layout.specs.Answers.{limit, whole_rows}

-- A cursor: the next byte, or the place of the refusal; the rows stored so far, or one more than the table has once a row did not
-- fit; 0 or the number of the refusal; and the value of the last leaf read
pub record Cursor : Type 0 where
  pub at : ℕ
  pub rows : ℕ
  pub refusal : ℕ
  pub value : ℕ

-- A cursor with its table
pub record ReadState : Type 0 where
  pub cursor : Cursor
  pub table : List ℕ

-- The two together
abbrev pub read_state : Cursor → List ℕ → ReadState
read_state c table = record { cursor = c; table = table }

-- The cursor at the start of a reading
abbrev pub new_cursor : Cursor
new_cursor = record { at = 0; rows = 0; refusal = 0; value = 0 }

-- The cursor at another place
abbrev pub seek : (at : ℕ) → Cursor → Cursor
seek at c = record { at = at; rows = c.rows; refusal = c.refusal; value = c.value }

-- The cursor, refused: its position is the place of the refusal
abbrev pub stopped : (number place : ℕ) → Cursor → Cursor
stopped n p c = record { at = p; rows = c.rows; refusal = n; value = c.value }

-- The same, unless it is refused already
abbrev pub refused_once : (number place : ℕ) → Cursor → Cursor
refused_once n p c = cond (eqb c.refusal 0) (stopped n p c) c

-- The cursor at the end of a payload: 12 at its position, if bytes remain
abbrev pub finished_at : (end : ℕ) → Cursor → Cursor
finished_at end c = cond (ltb c.at end) (refused_once 12 c.at c) c

-- A state whose cursor is refused
abbrev pub stop : (number place : ℕ) → ReadState → ReadState
stop n p st = read_state (stopped n p st.cursor) st.table

-- Numbers stored one after the other, from an index on
abbrev pub store : List ℕ → (index : ℕ) → List ℕ → List ℕ
store table i [] = table
store table i (x ∷ xs) = store (set table i x) (i + 1) xs

-- The table has room for a whole row after those stored so far
abbrev pub room : ReadState → Bool
room st = ltb st.cursor.rows (whole_rows st.table)

-- A leaf is read: its row is stored if there is room, and the reading continues after it. Rows are counted up to one more than
-- the table has
abbrev pub put : (row : List ℕ) (value next : ℕ) → ReadState → ReadState
put row value next st =
    let c = st.cursor in
    read_state
    (record { at = next; rows = min c.rows (whole_rows st.table) + 1; refusal = c.refusal; value = value })
    (cond (room st) (store st.table (row_width * c.rows) row) st.table)

-- The effect of reading a leaf on a state: its row is stored, or the read is refused
abbrev pub arrive : Outcome ℕ Leaf → ReadState → ReadState
arrive (ok x next) st = put (row_at st.cursor.at x) (leaf_value x) next st
arrive (refuse n p) st = stop n p st

-- A refused cursor does not change; too many bytes are refused first
unfoldable pub guarded : List ℕ → (out st : ReadState) → ReadState
guarded s out st = cond (eqb st.cursor.refusal 0) (cond (leb (length s) limit) out (stop 1 0 st)) st

-- The read of a leaf that holds a number
unfoldable pub read_plain : Sort → List ℕ → ReadState → ReadState
read_plain srt s st = guarded s (arrive (plain_at s srt st.cursor.at >>= λ n next. ok (plain srt n) next) st) st

-- The read of a text
unfoldable pub read_text : List ℕ → ReadState → ReadState
read_text s st = guarded s (arrive (text_at s st.cursor.at >>= λ t next. ok (string t) next) st) st
