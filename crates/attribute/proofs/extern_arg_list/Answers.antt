-- A list.
use Rattle.layout.specs.Entities.{ExternArg, ExternArgList}
use Rattle.attribute.proofs.extern_arg_list.Goals as goal

pub returns : goal.returns
unfolding ExternArgList
returns g c = c.list.ensures ExternArg (λ q r h. h)
