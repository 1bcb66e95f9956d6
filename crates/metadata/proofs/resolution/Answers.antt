-- The parts, one after the other.
use Rattle.layout.specs.Entities.{Resolution}
use Rattle.pass.proofs.Passes.{then_in}
use Rattle.metadata.proofs.resolution.Goals as goal

pub returns : goal.returns
unfolding Resolution
returns g c = then_in c.str.ensures c.type_origin.ensures
