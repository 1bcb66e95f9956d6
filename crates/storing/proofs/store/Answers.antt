-- The rows before index i are stored; the others are still to come.
use mathlib.Core.Path.{sym, ap, ◌∙◌}
use borrow.Author.Rules.{rules}
use Rattle.layout.specs.Answers.{whole_rows}
use Rattle.storing.specs.Private.{row_bytes, Spot}
use Rattle.storing.specs.Output.{spot_of}
use Rattle.storing.proofs.Rows.{bytes_between, rows_step, rows_done}
use Rattle.storing.proofs.Stored.{stores}
use Rattle.storing.proofs.store.Goals as goal

pub loop-i-preserved : goal.loop-i-preserved
loop-i-preserved c =
    let a = c.args in
    let x = c.loop-i in
    let next = c.push_row in
    let within = bytes_between (row_bytes a.rows.now a.text.now x.i) x.out.at x.out.dest.now x.invariant.1 _ _ next.ensures.stored in (
      next.ensures.lent ∙ x.invariant.0,
      within.1,
      x.invariant.2 ∙ rows_step a.rows.now a.text.now (whole_rows a.rows.now) x.i (spot_of x.out) c.loop-i-test.true _ next.ensures.stored,
    )

pub returns : goal.returns
returns c =
    let a = c.args in
    let x = c.loop-i in
    let told = stores a.rows.now a.text.now a.dest.now x.out.dest.now
    (sym (ap (λ (p : Spot). p.dest) (x.invariant.2 ∙ rows_done a.rows.now a.text.now (whole_rows a.rows.now) x.i (spot_of x.out) c.loop-i-test.false))) in
    let same = x.invariant.0 in
    λ ls g w h. search (rules, told ls g w h, same)
