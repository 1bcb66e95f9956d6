-- The parts, one after the other.
use Rattle.layout.specs.Entities.{Schema}
use Rattle.pass.proofs.Passes.{then_in}
use Rattle.entity.proofs.schema.Goals as goal

pub returns : goal.returns
unfolding Schema
returns g c = then_in c.str.ensures (then_in c.str-2.ensures (then_in c.str-3.ensures c.u32.ensures))
