-- By the flag.
use Prim.Native.Nat.{◌+◌}
use Rattle.table.proofs.Rows.{value_there}
use borrow.Author.Tests.{ne_eqb, eq-eqb}
use native.Mathlib.Omega.{arith}
use Rattle.sql_text.proofs.option_in.Goals as goal

pub returns-then-flag-eq1 : goal.returns-then-flag-eq1
returns-then-flag-eq1 c =
    let t = c.args.t.now in
    let row = c.args.row in
    let flag = value_there t row (omega (arith, c.requires)) c.row_at-flag.ensures in
    let number = value_there t (row + 1) (omega (arith, c.requires)) c.row_at-number.ensures in
    rw (← flag, eq-eqb _ 1 c.if-flag-eq1.true, number)

pub returns : goal.returns
returns c =
    let flag = value_there c.args.t.now c.args.row (omega (arith, c.requires)) c.row_at-flag.ensures in
    rw (← flag, ne_eqb _ 1 c.if-flag-eq1.false)
