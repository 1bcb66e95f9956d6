-- An optional part.
use Rattle.layout.specs.Entities.{FinalizeModify, OptionFinalizeModify}
use Rattle.entity.proofs.option_finalize_modify.Goals as goal

pub returns : goal.returns
unfolding OptionFinalizeModify
returns g c = c.option.ensures FinalizeModify (λ q r h. h)
