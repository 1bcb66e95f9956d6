-- The sort of the row that is there.
use borrow.Author.Tests.{lt-ltb}
use Rattle.table.proofs.Rows.{sort_there}
use Rattle.entry_writer.proofs.is_row.Goals as goal

pub returns-then-i-rows : goal.returns-then-i-rows
returns-then-i-rows c = simp (lt-ltb _ _ c.if-i-rows.true, sort_there _ _ c.if-i-rows.true c.row_at.ensures)
