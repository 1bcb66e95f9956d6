-- A list.
use Rattle.layout.specs.Entities.{SqlMapping, SqlMappingList}
use Rattle.metadata.proofs.sql_mapping_list.Goals as goal

pub returns : goal.returns
unfolding SqlMappingList
returns g c = c.list.ensures SqlMapping (λ q r h. h)
