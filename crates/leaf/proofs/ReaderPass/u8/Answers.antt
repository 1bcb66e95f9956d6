-- The number read is a leaf of its sort.
use Rattle.layout.specs.Layout.{Tag}
use Rattle.layout.specs.Machine.{drive}
use Rattle.reading.specs.State.{read_plain}
use Rattle.leaf.proofs.Leaves.{number_arrives}
use Rattle.leaf.proofs.ReaderPass.u8.Goals as goal

pub returns-clause-runs : goal.returns-clause-runs
unfolding drive read_plain
returns-clause-runs c = record { lent = c.byte.ensures.lent; state = rw (← number_arrives Tag) c.byte.ensures.state }
