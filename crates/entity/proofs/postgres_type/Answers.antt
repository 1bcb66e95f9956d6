-- The parts, one after the other.
use Rattle.layout.specs.Entities.{PostgresType}
use Rattle.pass.proofs.Passes.{then_in}
use Rattle.entity.proofs.postgres_type.Goals as goal

pub returns : goal.returns
unfolding PostgresType
returns g c = then_in c.str.ensures (then_in c.str-2.ensures (then_in c.u32.ensures (then_in c.str-3.ensures (then_in c.str-4.ensures (then_in c.str-5.ensures (then_in c.str-6.ensures (then_in c.str-7.ensures (then_in c.option_str.ensures (then_in c.option_str-2.ensures (then_in c.to_sql_config.ensures c.option_u32.ensures))))))))))
