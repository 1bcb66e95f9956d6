-- A list.
use Rattle.layout.specs.Entities.{PositioningRef, PositioningRefList}
use Rattle.attribute.proofs.positioning_ref_list.Goals as goal

pub returns : goal.returns
unfolding PositioningRefList
returns g c = c.list.ensures PositioningRef (λ q r h. h)
