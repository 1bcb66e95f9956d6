-- A list.
use Rattle.layout.specs.Entities.{PgExternArgument, PgExternArgumentList}
use Rattle.used.proofs.pg_extern_argument_list.Goals as goal

pub returns : goal.returns
unfolding PgExternArgumentList
returns g c = c.list.ensures PgExternArgument (λ q r h. h)
