-- No such row, or the three numbers of the row.
use Rattle.table.proofs.Rows.{row_none, row_there}
use mathlib.Core.Path.{sym, ◌∙◌}
use Rattle.table.proofs.row_at.Goals as goal

pub returns-then-table-index : goal.returns-then-table-index
returns-then-table-index c = let none = c.default.ensures in (λ i. record { sort = none.0 i; offset = none.1.0 i; value = none.1.1 i }) ∙ sym (row_none _ _ c.if-table-index.true)

pub returns : goal.returns
returns c = sym (row_there _ _ c.if-table-index.false)
