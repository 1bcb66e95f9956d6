-- One entry of a section: its effect on the reading so far.
use Rattle.std.specs.Prelude.{ℕ, ◌+◌, cond, ◌&&◌, List, eqb, ltb, leb, length, take, drop}
use Rattle.layout.specs.Entities.{Entity}
use Rattle.layout.specs.Answers.{limit}
use Rattle.raw_bytes.specs.Bytes.{number_or0, same}
use Rattle.reading.specs.State.{ReadState, read_state, seek, finished_at}
use Rattle.reading.specs.Run.{run}
use Rattle.leaf.specs.Reader.{state_of}
use Rattle.framing.specs.Entries.{sentinel_bytes}
use Rattle.framing.specs.Places.{entry_end}
use Rattle.leaf.specs.declared.Reader.{Reader}

-- What is read so far, with the table
pub record Stage : Type 0 where
  pub state : ReadState
  pub entities : ℕ

-- The two together
abbrev pub stage : ReadState → (entities : ℕ) → Stage
stage st n = record { state = st; entities = n }

-- What the code has read so far, with its table
abbrev pub staged : Reader → (entities : ℕ) → Stage
staged reader n = stage (state_of reader) n

-- A state at another place
abbrev pub seeks : (at : ℕ) → ReadState → ReadState
seeks at st = read_state (seek at st.cursor) st.table

-- The effect of a payload on a stage: the sentinel is skipped, anything else is read as an entity
abbrev pub entered : List ℕ → (begin end : ℕ) → Stage → Stage
entered s begin end g =
    let r = run Entity (take end s) (seeks begin g.state) in
    cond (same (drop begin (take end s)) sentinel_bytes)
    (stage (seeks end g.state) g.entities)
    (stage (read_state (finished_at end r.cursor) r.table) (g.entities + 1))

-- The effect of the entry at a stage's position
unfoldable pub past_entry : List ℕ → Stage → Stage
past_entry s g =
    let at = g.state.cursor.at in
    entered s (at + 4) (at + 4 + number_or0 s at) g

-- One entry from any stage. The stage is unchanged if it is refused, if there is no whole entry, or with too many bytes or
-- entities
unfoldable pub read_entry : List ℕ → Stage → Stage
read_entry s g =
    let c = g.state.cursor in
    cond (eqb c.refusal 0 && (leb (length s) limit && (leb g.entities limit && ltb c.at (entry_end s c.at)))) (past_entry s g) g
