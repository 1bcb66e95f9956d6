-- The parts, one after the other.
use Rattle.layout.specs.Entities.{Aggregate}
use Rattle.pass.proofs.Passes.{then_in}
use Rattle.entity.proofs.aggregate.Goals as goal

pub returns : goal.returns
unfolding Aggregate
returns g c = then_in c.str.ensures (then_in c.str-2.ensures (then_in c.str-3.ensures (then_in c.u32.ensures (then_in c.str-4.ensures (then_in c.bool.ensures.runs (then_in c.aggregate_type_list.ensures (then_in c.option_aggregate_type_list.ensures (then_in c.aggregate_type.ensures (then_in c.str-5.ensures (then_in c.option_str.ensures (then_in c.option_finalize_modify.ensures (then_in c.option_str-2.ensures (then_in c.option_str-3.ensures (then_in c.option_str-4.ensures (then_in c.option_str-5.ensures (then_in c.option_str-6.ensures (then_in c.option_str-7.ensures (then_in c.option_used_type.ensures (then_in c.option_str-8.ensures (then_in c.option_finalize_modify-2.ensures (then_in c.option_str-9.ensures (then_in c.option_str-10.ensures (then_in c.option_parallel_option.ensures (then_in c.bool-2.ensures.runs c.to_sql_config.ensures))))))))))))))))))))))))
