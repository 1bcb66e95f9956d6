-- The parts, one after the other.
use Rattle.layout.specs.Entities.{PostgresEnum}
use Rattle.pass.proofs.Passes.{then_in}
use Rattle.entity.proofs.postgres_enum.Goals as goal

pub returns : goal.returns
unfolding PostgresEnum
returns g c = then_in c.str.ensures (then_in c.str-2.ensures (then_in c.u32.ensures (then_in c.str-3.ensures (then_in c.str-4.ensures (then_in c.str-5.ensures (then_in c.str_list.ensures c.to_sql_config.ensures))))))
