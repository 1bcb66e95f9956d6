-- An optional part.
use Rattle.layout.specs.Entities.{Operator, OptionOperator}
use Rattle.attribute.proofs.option_operator.Goals as goal

pub returns : goal.returns
unfolding OptionOperator
returns g c = c.option.ensures Operator (λ q r h. h)
