-- The parts, one after the other.
use Rattle.layout.specs.Entities.{UsedType}
use Rattle.pass.proofs.Passes.{then_in}
use Rattle.used.proofs.used_type.Goals as goal

pub returns : goal.returns
unfolding UsedType
returns g c = then_in c.str.ensures (then_in c.str-2.ensures (then_in c.option_str.ensures (then_in c.bool.ensures.runs (then_in c.option_str-2.ensures (then_in c.bool-2.ensures.runs c.function_metadata_type.ensures)))))
