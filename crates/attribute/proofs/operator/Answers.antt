-- The parts, one after the other.
use Rattle.layout.specs.Entities.{Operator}
use Rattle.pass.proofs.Passes.{then_in}
use Rattle.attribute.proofs.operator.Goals as goal

pub returns : goal.returns
unfolding Operator
returns g c = then_in c.option_str.ensures (then_in c.option_str-2.ensures (then_in c.option_str-3.ensures (then_in c.option_str-4.ensures (then_in c.option_str-5.ensures (then_in c.bool.ensures.runs c.bool-2.ensures.runs)))))
