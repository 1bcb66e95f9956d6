-- The parts, one after the other.
use Rattle.layout.specs.Entities.{CustomSql}
use Rattle.pass.proofs.Passes.{then_in}
use Rattle.entity.proofs.custom_sql.Goals as goal

pub returns : goal.returns
unfolding CustomSql
returns g c = then_in c.str.ensures (then_in c.str-2.ensures (then_in c.str-3.ensures (then_in c.str-4.ensures (then_in c.u32.ensures (then_in c.str-5.ensures (then_in c.bool.ensures.runs (then_in c.bool-2.ensures.runs (then_in c.positioning_ref_list.ensures c.sql_declared_list.ensures))))))))
