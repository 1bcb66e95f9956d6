-- Definitions for the contracts of private functions; no public contract cites them.
use Rattle.std.specs.Prelude.{ℕ, ◌≤◌, List, [], ◌∷◌, ◌≡◌, length}
use Rattle.layout.specs.Reading.{Outcome, ok, refuse}
use Rattle.reading.specs.State.{ReadState, read_state, new_cursor}
use Rattle.reading.specs.Theorems.{arrive_all}
use Rattle.section.specs.Derivation.{Placed}
use Rattle.framing.specs.Framing.{framing_from}
use Rattle.framing.specs.Answers.{end_of, framing_end}
use Rattle.section.specs.Section.{read_section}
use Rattle.section.specs.Entry.{Stage, stage, seeks}

-- Entities read one after the other
abbrev pub arrive_entities : List Placed → ReadState → ReadState
arrive_entities [] st = st
arrive_entities (e ∷ es) st = arrive_entities es (arrive_all e.content (seeks e.at st))

-- A stage at the padding, by the outcome of reading the section: all entities are read, from the start and with a table; or the
-- stage has that refusal
pub data Reads (table : List ℕ) (end : ℕ) (g : Stage) : Outcome ℕ (List Placed) → Type 0 where
  reads : {es : List Placed} {at : ℕ} → g ≡ stage (seeks end (arrive_entities es (read_state new_cursor table))) (length es) → Reads table end g (ok es at)
  stops : {n p : ℕ} → (g.state.cursor.refusal ≡ n) × (n ≡ 0 → ⊥) × (g.state.cursor.at ≡ p) × (length g.state.table ≡ length table) → Reads table end g (refuse n p)

-- A boundary up to which the framing is good: it ends as the framing from there on does
pub record Walked (s : List ℕ) (at : ℕ) : Type 0 where
  pub inside : at ≤ length s
  pub rest : framing_end s ≡ end_of (framing_from s at)

-- Entries are read up to a boundary: if the framing is good after it too, the stage is that of the section's reading
pub record Walks (s table : List ℕ) (at : ℕ) (g : Stage) : Type 0 where
  pub walked : Walked s at
  pub kept : length g.state.table ≡ length table
  pub reads : (end : ℕ) → framing_end s ≡ ok tt end → Reads table end g (read_section s)
