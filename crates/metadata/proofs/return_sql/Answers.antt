-- Each known tag, and the rest.
use native.Mathlib.Omega.{arith}
use mathlib.Core.Path.{refl}
use Rattle.layout.specs.Entities.{ReturnSql, return_results}
use Rattle.pass.proofs.Passes.{tags_in, tags_wrong}
use Rattle.metadata.proofs.return_sql.Goals as goal

pub returns-in-1 : goal.returns-in-1
unfolding ReturnSql
returns-in-1 g c = tags_in return_results c.u8.ensures.runs c.u8.ensures.value 1 c.in-1.is refl c.returns.ensures

pub returns-in-2 : goal.returns-in-2
unfolding ReturnSql
returns-in-2 g c = tags_in return_results c.u8.ensures.runs c.u8.ensures.value 2 c.in-2.is refl c.returns_error.ensures

pub returns-in_default : goal.returns-in_default
unfolding ReturnSql
returns-in_default g c = tags_wrong return_results c.u8.ensures.runs c.u8.ensures.value c.place-begin.ensures (omega arith) refl c.refuse.ensures
