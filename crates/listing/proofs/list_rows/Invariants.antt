-- What is shown so far: the line of the counts, and the lines of the rows passed.
use Rattle.std.proofs.Common.{◌+◌, ◌*◌, ◌≤◌, ◌++◌}
use Rattle.listing.specs.Listing.{row_lines}
use Rattle.listing.proofs.Lines.{accept_line}
use Rattle.listing.proofs.Places.{Shown}
use Rattle.listing.proofs.list_rows.Given as goal

abbrev pub invariant-loop-index : goal.invariant-loop-index
invariant-loop-index l =
    Shown (accept_line l.fn.counts ++ row_lines l.index l.table) l.fn.out l.out l.end × (l.end ≤ 49 + 33 * l.index)
