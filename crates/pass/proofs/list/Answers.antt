-- The count, then the items.
use Rattle.pass.proofs.Passes.{list_in}
use Rattle.pass.proofs.list.Goals as goal

pub returns : goal.returns
returns g c L f = list_in c.count-count.ensures.runs c.count-count.ensures.value (c.times.ensures L f)
