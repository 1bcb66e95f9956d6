-- The number read is a leaf of its sort.
use Rattle.layout.specs.Layout.{Number}
use Rattle.layout.specs.Machine.{drive}
use Rattle.reading.specs.State.{read_plain}
use Rattle.leaf.proofs.Leaves.{number_arrives}
use Rattle.leaf.proofs.ReaderPass.u32.Goals as goal

pub returns : goal.returns
unfolding drive read_plain
returns c = record { lent = c.four.ensures.lent; state = rw (← number_arrives Number) c.four.ensures.state }
