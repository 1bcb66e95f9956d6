-- The sum stops above the rows.
use native.Mathlib.Omega.{arith}
use mathlib.Core.Path.{ap, ◌∙◌}
use Rattle.table.specs.declared.Row.{Row}
use Rattle.table.specs.Table.{row_of}
use Rattle.entry_writer.proofs.Steps.{row_beyond}
use Rattle.entry_writer.proofs.EntryWriterPass.seen.Goals as goal

pub returns : goal.returns
returns c = ap (λ (r : Row). r.value) (c.row_at.ensures ∙ ap (row_of c.args.self.now.rows.now) c.saturating_add.ensures ∙ row_beyond _ _ (omega arith))
