-- Each known tag, and the rest.
use native.Mathlib.Omega.{arith}
use mathlib.Core.Path.{refl}
use Rattle.layout.specs.Entities.{ArgumentSql, argument_results}
use Rattle.pass.proofs.Passes.{tags_in, tags_wrong}
use Rattle.metadata.proofs.argument_sql.Goals as goal

pub returns-in-1 : goal.returns-in-1
unfolding ArgumentSql
returns-in-1 g c = tags_in argument_results c.u8.ensures.runs c.u8.ensures.value 1 c.in-1.is refl c.sql_mapping.ensures

pub returns-in-2 : goal.returns-in-2
unfolding ArgumentSql
returns-in-2 g c = tags_in argument_results c.u8.ensures.runs c.u8.ensures.value 2 c.in-2.is refl c.argument_error.ensures

pub returns-in_default : goal.returns-in_default
unfolding ArgumentSql
returns-in_default g c = tags_wrong argument_results c.u8.ensures.runs c.u8.ensures.value c.place-begin.ensures (omega arith) refl c.refuse.ensures
