-- An optional part.
use Rattle.layout.specs.Entities.{OptionResolution, Resolution}
use Rattle.metadata.proofs.option_resolution.Goals as goal

pub returns : goal.returns
unfolding OptionResolution
returns g c = c.option.ensures Resolution (λ q r h. h)
