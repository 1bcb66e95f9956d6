-- The number taken is a leaf of its sort.
use Rattle.layout.specs.Layout.{Number}
use Rattle.layout.specs.Machine.{drive}
use Rattle.writing.specs.State.{consume_plain}
use Rattle.entry_writer.proofs.Steps.{take_sort}
use Rattle.entry_writer.proofs.EntryWriterPass.u32.Goals as goal

pub returns : goal.returns
unfolding drive consume_plain
returns c = record { lent = c.number.ensures.lent; state = rw (← take_sort Number) c.number.ensures.state }
