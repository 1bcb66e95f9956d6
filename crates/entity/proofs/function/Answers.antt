-- The parts, one after the other.
use Rattle.layout.specs.Entities.{Function}
use Rattle.pass.proofs.Passes.{then_in}
use Rattle.entity.proofs.function.Goals as goal

pub returns : goal.returns
unfolding Function
returns g c = then_in c.str.ensures (then_in c.str-2.ensures (then_in c.str-3.ensures (then_in c.str-4.ensures (then_in c.pg_extern_argument_list.ensures (then_in c.pg_extern_return.ensures (then_in c.option_str.ensures (then_in c.str-5.ensures (then_in c.u32.ensures (then_in c.extern_arg_list.ensures (then_in c.search_path.ensures (then_in c.option_operator.ensures (then_in c.option_cast.ensures c.to_sql_config.ensures))))))))))))
