-- Refused, no such row, too large, or the number.
use borrow.Author.Tests.{ne_eqb, eq-eqb, lt-ltb, le-ltb}
use Rattle.writing.specs.State.{unless_refused}
use Rattle.entry_writer.proofs.Steps.{row_value}
use Rattle.entry_writer.proofs.EntryWriter.number.Goals as goal

pub returns-then-self-ne0-clause-state : goal.returns-then-self-ne0-clause-state
unfolding unless_refused
returns-then-self-ne0-clause-state c = rw (ne_eqb _ _ c.if-self-ne0.true)

pub returns-then-not-is_row-clause-state : goal.returns-then-not-is_row-clause-state
unfolding unless_refused
returns-then-not-is_row-clause-state c =
    let z = eq-eqb _ _ c.if-self-ne0.false in
    rw (z, ← c.is_row.ensures, c.if-not-is_row.true) (rw z at c.stop.ensures.state)

pub returns-then-bound-row-clause-state : goal.returns-then-bound-row-clause-state
unfolding unless_refused
returns-then-bound-row-clause-state c =
    let z = eq-eqb _ _ c.if-self-ne0.false in
    let v = row_value _ _ _ c.is_row.ensures c.if-not-is_row.false c.row_at-row.ensures in
    rw (z, ← c.is_row.ensures, c.if-not-is_row.false, ← v, le-ltb _ c.args.bound c.if-bound-row.true) (rw z at c.stop-then-bound-row.ensures.state)

pub returns-clause-state : goal.returns-clause-state
unfolding unless_refused
returns-clause-state c =
    let v = row_value _ _ _ c.is_row.ensures c.if-not-is_row.false c.row_at-row.ensures in
    rw (eq-eqb _ _ c.if-self-ne0.false, ← c.is_row.ensures, c.if-not-is_row.false, ← v, lt-ltb _ _ c.if-bound-row.false) c.past.ensures.state
