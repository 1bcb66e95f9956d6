-- The parts, one after the other.
use Rattle.layout.specs.Entities.{Numeric}
use Rattle.pass.proofs.Passes.{then_in}
use Rattle.metadata.proofs.numeric.Goals as goal

pub returns : goal.returns
unfolding Numeric
returns g c = then_in c.bool.ensures.runs (then_in c.u32.ensures (then_in c.bool-2.ensures.runs c.u32-2.ensures))
