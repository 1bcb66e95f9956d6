-- The record from the kind's row, the entry's length and the row after the entity's.
use Rattle.std.proofs.Common.{arith}
use Rattle.directory.proofs.Ready.{guessed, rows_some, count_small, record_is}
use Rattle.directory.proofs.record_after.Goals as goal

pub rows_end-next-requires : goal.rows_end-next-requires
rows_end-next-requires c = guessed c.requires _ c.row_at-row.ensures _ c.number_at-length.ensures

pub overflow_sub-result : goal.overflow_sub-result
overflow_sub-result c = rows_some c.requires _ c.row_at-row.ensures _ c.number_at-length.ensures _ c.rows_end-next.ensures

pub overflow_cast-result-2 : goal.overflow_cast-result-2
overflow_cast-result-2 c = omega (arith, count_small c.requires _ c.row_at-row.ensures _ c.number_at-length.ensures _ c.rows_end-next.ensures)

pub returns : goal.returns
returns c = λ b. record_is b _ c.row_at-row.ensures _ c.number_at-length.ensures _ c.rows_end-next.ensures
