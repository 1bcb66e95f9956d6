-- The parts, one after the other.
use Rattle.layout.specs.Entities.{DeclaredType}
use Rattle.pass.proofs.Passes.{then_in}
use Rattle.declared.proofs.declared_type.Goals as goal

pub returns : goal.returns
unfolding DeclaredType
returns g c = then_in c.str.ensures c.declared_sql.ensures
