-- A row that is within is in the table, and what is known of the rows of an entry places the row that the search is at.
use Rattle.std.proofs.Common.{◌<◌, arith, rules, sym, ◌∙◌}
use Rattle.layout.specs.Answers.{whole_rows}
use Rattle.directory.proofs.Rows.{within_there, not_before, not_after}
use Rattle.directory.proofs.rows_end.Goals as goal

pub overflow_add-row : goal.overflow_add-row
overflow_add-row c =
    let there : c.loop-row.row < whole_rows c.args.t.now = within_there c.args.t.now c.args.start c.args.end c.loop-row.row (sym c.is_within.ensures ∙ c.loop-row-test.true) in
    search rules

pub loop-row-smaller : goal.loop-row-smaller
loop-row-smaller c =
    let there : c.loop-row.row < whole_rows c.args.t.now = within_there c.args.t.now c.args.start c.args.end c.loop-row.row (sym c.is_within.ensures ∙ c.loop-row-test.true) in
    omega arith

pub loop-row-2-preserved : goal.loop-row-2-preserved
loop-row-2-preserved c =
    λ g. not_before g.rows _ (omega (arith, g.rows.some, c.loop-row-2.invariant g)) (sym c.is_within-in-loop-row-2.ensures ∙ c.loop-row-2-test.true)

pub returns : goal.returns
returns c =
    λ g. omega (arith, g.rows.some, c.loop-row-2.invariant g, not_after g.rows _ (sym c.is_within-in-loop-row-2.ensures ∙ c.loop-row-2-test.false))
