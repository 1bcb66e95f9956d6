-- The parts, one after the other.
use Rattle.layout.specs.Entities.{FunctionMetadataType}
use Rattle.pass.proofs.Passes.{then_in}
use Rattle.metadata.proofs.function_metadata_type.Goals as goal

pub returns : goal.returns
unfolding FunctionMetadataType
returns g c = then_in c.option_resolution.ensures (then_in c.argument_sql.ensures c.return_sql.ensures)
