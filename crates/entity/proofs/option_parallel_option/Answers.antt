-- An optional part.
use Rattle.layout.specs.Entities.{OptionParallelOption, ParallelOption}
use Rattle.entity.proofs.option_parallel_option.Goals as goal

pub returns : goal.returns
unfolding OptionParallelOption
returns g c = c.option.ensures ParallelOption (λ q r h. h)
