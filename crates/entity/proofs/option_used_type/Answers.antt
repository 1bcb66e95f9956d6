-- An optional part.
use Rattle.layout.specs.Entities.{OptionUsedType, UsedType}
use Rattle.entity.proofs.option_used_type.Goals as goal

pub returns : goal.returns
unfolding OptionUsedType
returns g c = c.option.ensures UsedType (λ q r h. h)
