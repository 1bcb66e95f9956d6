-- Forward to a row that is not within, then back to the last that is.
use Rattle.std.proofs.Common.{◌-◌, ◌≤◌}
use Rattle.layout.specs.Answers.{whole_rows}
use Rattle.directory.specs.Private.{Guessed}
use Rattle.directory.proofs.rows_end.Given as goal

abbrev pub invariant-loop-row : goal.invariant-loop-row
invariant-loop-row l = l.guess ≤ l.row

abbrev pub decreases-loop-row : goal.decreases-loop-row
decreases-loop-row l = whole_rows l.t - l.row

abbrev pub invariant-loop-row-2 : goal.invariant-loop-row-2
invariant-loop-row-2 l = (g : Guessed l.t l.guess l.start l.end) → g.next ≤ l.row

abbrev pub decreases-loop-row-2 : goal.decreases-loop-row-2
decreases-loop-row-2 l = l.row
