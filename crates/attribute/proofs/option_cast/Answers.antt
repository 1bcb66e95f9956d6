-- An optional part.
use Rattle.layout.specs.Entities.{Cast, OptionCast}
use Rattle.attribute.proofs.option_cast.Goals as goal

pub returns : goal.returns
unfolding OptionCast
returns g c = c.option.ensures Cast (λ q r h. h)
