-- The parts, one after the other.
use Rattle.layout.specs.Entities.{ToSqlConfig}
use Rattle.pass.proofs.Passes.{then_in}
use Rattle.attribute.proofs.to_sql_config.Goals as goal

pub returns : goal.returns
unfolding ToSqlConfig
returns g c = then_in c.bool.ensures.runs c.option_str.ensures
