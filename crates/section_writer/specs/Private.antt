-- Definitions for the contracts of private functions; no public contract cites them.
use Rattle.std.specs.Prelude.{ℕ, zero, suc, cond, List, eqb, leb}
use Rattle.layout.specs.Entities.{Entity}
use Rattle.layout.specs.Answers.{whole_rows}
use Rattle.writing.specs.State.{stopped_once, length_taken}
use Rattle.writing.specs.Run.{consume}
use Rattle.writing.specs.State.{WriteState}

-- The rows of one entity, after the length of its entry
abbrev pub consume_entry : (rows text : List ℕ) → WriteState → WriteState
consume_entry rows text w = consume Entity rows text (length_taken w)

-- The rows of one entity or more, up to the last row; at most n of them
unfoldable pub consume_entities : (rows text : List ℕ) → (n : ℕ) → WriteState → WriteState
consume_entities rows text zero w = stopped_once w
consume_entities rows text (suc n) w =
    let next = consume_entry rows text w in
    cond (eqb next.refusal 0) (cond (leb (whole_rows rows) next.row) next (consume_entities rows text n next)) next
