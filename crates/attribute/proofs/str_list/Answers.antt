-- A list.
use Rattle.layout.specs.Layout.{text}
use Rattle.layout.specs.Entities.{StrList}
use Rattle.attribute.proofs.str_list.Goals as goal

pub returns : goal.returns
unfolding StrList
returns g c = c.list.ensures text (λ q r h. h)
