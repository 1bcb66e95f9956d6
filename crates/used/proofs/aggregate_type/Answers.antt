-- The parts, one after the other.
use Rattle.layout.specs.Entities.{AggregateType}
use Rattle.pass.proofs.Passes.{then_in}
use Rattle.used.proofs.aggregate_type.Goals as goal

pub returns : goal.returns
unfolding AggregateType
returns g c = then_in c.option_str.ensures c.used_type.ensures
