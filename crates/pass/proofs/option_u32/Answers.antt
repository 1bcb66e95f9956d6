use Rattle.layout.specs.Entities.{OptionU32}
use Rattle.layout.specs.Forms.{number}
use Rattle.pass.proofs.option_u32.Goals as goal

pub returns : goal.returns
unfolding OptionU32
returns g c = c.option.ensures number (λ q r h. h)
