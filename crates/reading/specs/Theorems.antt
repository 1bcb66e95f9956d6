-- The theorems about the definitions, as statements, for every layout. Each comment names the proof, in proofs/.
use Rattle.std.specs.Prelude.{ℕ, ◌+◌, ◌≤◌, List, [], ◌∷◌, ◌≡◌, length}
use Rattle.layout.specs.Layout.{Leaf, Layout}
use Rattle.layout.specs.Written.{leaf_bytes}
use Rattle.layout.specs.Reading.{Outcome, ok, refuse, read}
use Rattle.layout.specs.Answers.{limit}
use Rattle.layout.specs.ReadAlone.{reading_alone}
use Rattle.reading.specs.State.{ReadState, read_state, new_cursor, arrive}
use Rattle.reading.specs.Run.{run}
use Rattle.reading.specs.Answered.{answered_alone}

-- Leaves read one after the other, from the position of a state
abbrev pub arrive_all : List Leaf → ReadState → ReadState
arrive_all [] st = st
arrive_all (x ∷ ls) st = arrive_all ls (arrive (ok x (st.cursor.at + length (leaf_bytes x))) st)

-- The reading goes from st to r by an outcome: the leaves were read, and r is positioned after them; or r has that refusal
pub data Follows (st r : ReadState) : Outcome ℕ (List Leaf) → Type 0 where
  moved : {ls : List Leaf} {next : ℕ} → (r ≡ arrive_all ls st) × (r.cursor.at ≡ next) → Follows st r (ok ls next)
  stops : {n p : ℕ} → (r.cursor.refusal ≡ n) × (n ≡ 0 → ⊥) × (r.cursor.at ≡ p) × (length r.table ≡ length st.table) → Follows st r (refuse n p)

-- `run` follows `read`: `run_read` in Reading.antt
abbrev pub RunRead : Type 0
RunRead =
    (s : List ℕ) → length s ≤ limit → (L : Layout) (st : ReadState) → st.cursor.refusal ≡ 0
    → Follows st (run L s st) (read L s st.cursor.at)

-- A refused cursor does not change: `run_refused` in Still.antt
abbrev pub RunRefused : Type 0
RunRefused = (L : Layout) (s : List ℕ) (st : ReadState) → (st.cursor.refusal ≡ 0 → ⊥) → run L s st ≡ st

-- The answer of a reading from the start is that of the reading of one value alone: `run_alone` in Answered.antt
abbrev pub RunAlone : Type 0
RunAlone =
    (L : Layout) (entities : ℕ) (s table : List ℕ)
    → answered_alone entities s (run L s (read_state new_cursor table)) ≡ reading_alone L entities s table
