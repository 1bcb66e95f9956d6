-- Clearing the part after the index, or nothing.
use Rattle.table.proofs.Cleared.{cleared_part, cleared_end}
use Rattle.std.proofs.Common.{sym}
use Rattle.table.proofs.clear_from.Goals as goal

pub returns-then-from-table : goal.returns-then-from-table
returns-then-from-table c = cleared_part c.args.table.now c.args.from _ (c.fill.ensures.after (λ y h. h))

pub returns-else-from-table : goal.returns-else-from-table
returns-else-from-table c = sym (cleared_end _ _ c.if-from-table.false)
