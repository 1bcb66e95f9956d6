-- Refused, too few rows, or what was stored.
use Prim.Native.Nat.{◌/◌}
use lib.ListN.{length}
use borrow.Author.Tests.{eq-eqb, ne_eqb, lt-leb, le-leb}
use Rattle.layout.specs.Written.{row_width}
use Rattle.table.specs.Table.{cleared}
use Rattle.reading.specs.Answered.{answered}
use Rattle.leaf.proofs.Reader.answer.Goals as goal

pub returns-then-self-ne0-clause-answer : goal.returns-then-self-ne0-clause-answer
unfolding answered
returns-then-self-ne0-clause-answer c = rw (ne_eqb _ _ c.if-self-ne0.true) c.refuse.ensures

pub returns-then-self-rows-clause-answer : goal.returns-then-self-rows-clause-answer
unfolding answered
returns-then-self-rows-clause-answer c =
    let p = c.args.self.now in
    rw (eq-eqb _ _ c.if-self-ne0.false, lt-leb p.rows (length p.t.now / row_width) c.if-self-rows.true) c.refuse-then-self-rows.ensures

pub returns-clause-answer : goal.returns-clause-answer
unfolding answered cleared
returns-clause-answer c =
    let p = c.args.self.now in
    rw (eq-eqb _ _ c.if-self-ne0.false, le-leb p.rows (length p.t.now / row_width) c.if-self-rows.false, c.clear_from.ensures)
