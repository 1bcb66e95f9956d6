-- The answer of a reading, from its state at the end.
use Rattle.std.specs.Prelude.{ℕ, ◌*◌, cond, List, eqb, leb, length, take}
use Rattle.layout.specs.Written.{row_width}
use Rattle.layout.specs.Answers.{limit, Result, whole_rows, refusal, acceptance}
use Rattle.reading.specs.State.{ReadState, read_state, finished_at}

-- The cursor's refusal; 13; or what was stored, then only 0
unfoldable pub answered : (entities : ℕ) → ReadState → Result
answered entities st =
    let c = st.cursor in
    let table = st.table in
    cond (eqb c.refusal 0)
    (cond (leb c.rows (whole_rows table))
    (acceptance (record { entities = entities; leaf_count = c.rows; rows = take (row_width * c.rows) table }) table)
    (refusal 13 0 table))
    (refusal c.refusal c.at table)

-- The same for one value that is read alone, from all bytes of s: 1 comes first, and 12 before 13
unfoldable pub answered_alone : (entities : ℕ) → List ℕ → ReadState → Result
answered_alone entities s st =
    cond (leb (length s) limit)
    (answered entities (read_state (finished_at (length s) st.cursor) st.table))
    (refusal 1 0 st.table)
