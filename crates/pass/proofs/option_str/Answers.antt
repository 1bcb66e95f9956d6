use Rattle.layout.specs.Entities.{OptionStr}
use Rattle.layout.specs.Layout.{text}
use Rattle.pass.proofs.option_str.Goals as goal

pub returns : goal.returns
unfolding OptionStr
returns g c = c.option.ensures text (λ q r h. h)
