-- An optional part.
use Rattle.layout.specs.Entities.{SearchPath, StrList}
use Rattle.attribute.proofs.search_path.Goals as goal

pub returns : goal.returns
unfolding SearchPath
returns g c = c.option.ensures StrList (λ q r h. h)
