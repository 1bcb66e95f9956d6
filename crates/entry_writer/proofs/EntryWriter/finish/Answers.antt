-- Each return, by the tests before it.
use Prim.Native.Nat.{◌*◌}
use native.Mathlib.Omega.{arith}
use lib.ListN.{length}
use borrow.Author.Tests.{ne_eqb, eq-eqb, lt-leb, le-leb}
use Rattle.layout.specs.Written.{row_width}
use Rattle.writing.specs.Run.{closing}
use Rattle.entry_writer.proofs.EntryWriter.finish.Goals as goal
use Rattle.entry_writer.proofs.EntryWriter.finish.Goals.{then-self-ne0-via-then-self-ne0, then-self-ne0-via-else-self-ne0+then-numbers_left, then-self-ne0-via-else-self-ne0+else-numbers_left+then-rows_left}

pub returns-then-self-ne0 : goal.returns-then-self-ne0
unfolding closing
returns-then-self-ne0 c =
    let w = c.args.self.now in
    rw c.at.ensures (elim c.then-self-ne0.branch [
      | then-self-ne0-via-then-self-ne0 v ↦ rw (ne_eqb _ _ v.if-self-ne0.true)
      | then-self-ne0-via-else-self-ne0+then-numbers_left v ↦ rw (eq-eqb _ _ v.if-self-ne0.false, ne_eqb (row_width * w.row) (length w.rows.now) (λ h. omega arith))
      | then-self-ne0-via-else-self-ne0+else-numbers_left+then-rows_left v ↦ rw (eq-eqb _ _ v.if-self-ne0.false, ne_eqb (row_width * w.row) (length w.rows.now) (λ h. omega arith))
    ])

pub returns-then-self-ne0-2 : goal.returns-then-self-ne0-2
unfolding closing
returns-then-self-ne0-2 c =
    let w = c.args.self.now in
    let z = eq-eqb _ _ c.if-self-ne0.false in
    rw (z, eq-eqb (row_width * w.row) (length w.rows.now) (omega arith), ne_eqb _ _ c.if-self-ne0-2.true, c.at-then-self-ne0-2.ensures)

pub returns-then-self-gt-LIMIT : goal.returns-then-self-gt-LIMIT
unfolding closing
returns-then-self-gt-LIMIT c =
    let w = c.args.self.now in
    let z = eq-eqb _ _ c.if-self-ne0.false in
    rw (z, eq-eqb (row_width * w.row) (length w.rows.now) (omega arith), eq-eqb _ _ c.if-self-ne0-2.false, lt-leb _ _ c.if-self-gt-LIMIT.true, c.at-then-self-gt-LIMIT.ensures)

pub returns : goal.returns
unfolding closing
returns c =
    let w = c.args.self.now in
    let z = eq-eqb _ _ c.if-self-ne0.false in
    rw (z, eq-eqb (row_width * w.row) (length w.rows.now) (omega arith), eq-eqb _ _ c.if-self-ne0-2.false, le-leb _ _ c.if-self-gt-LIMIT.false)
