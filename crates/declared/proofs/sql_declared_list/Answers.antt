-- A list.
use Rattle.layout.specs.Entities.{SqlDeclared, SqlDeclaredList}
use Rattle.declared.proofs.sql_declared_list.Goals as goal

pub returns : goal.returns
unfolding SqlDeclaredList
returns g c = c.list.ensures SqlDeclared (λ q r h. h)
