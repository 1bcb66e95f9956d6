-- An optional part.
use Rattle.layout.specs.Entities.{AggregateTypeList, OptionAggregateTypeList}
use Rattle.entity.proofs.option_aggregate_type_list.Goals as goal

pub returns : goal.returns
unfolding OptionAggregateTypeList
returns g c = c.option.ensures AggregateTypeList (λ q r h. h)
