-- A list.
use Rattle.layout.specs.Entities.{AggregateType, AggregateTypeList}
use Rattle.used.proofs.aggregate_type_list.Goals as goal

pub returns : goal.returns
unfolding AggregateTypeList
returns g c = c.list.ensures AggregateType (λ q r h. h)
