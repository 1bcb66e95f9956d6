-- The number taken is a leaf of its sort.
use Rattle.layout.specs.Layout.{Tag}
use Rattle.layout.specs.Machine.{drive}
use Rattle.writing.specs.State.{consume_plain}
use Rattle.entry_writer.proofs.Steps.{take_sort}
use Rattle.entry_writer.proofs.EntryWriterPass.u8.Goals as goal

pub returns-clause-runs : goal.returns-clause-runs
unfolding drive consume_plain
returns-clause-runs c = record { lent = c.number.ensures.lent; state = rw (← take_sort Tag) c.number.ensures.state }
