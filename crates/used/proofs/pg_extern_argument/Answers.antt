-- The parts, one after the other.
use Rattle.layout.specs.Entities.{PgExternArgument}
use Rattle.pass.proofs.Passes.{then_in}
use Rattle.used.proofs.pg_extern_argument.Goals as goal

pub returns : goal.returns
unfolding PgExternArgument
returns g c = then_in c.str.ensures c.used_type.ensures
