-- Each known tag, and the rest.
use native.Mathlib.Omega.{arith}
use mathlib.Core.Path.{refl}
use Rattle.layout.specs.Entities.{PgExternReturn, pg_extern_returns}
use Rattle.pass.proofs.Passes.{nothing_in, tags_in, tags_of_two, tags_wrong}
use Rattle.used.proofs.pg_extern_return.Goals as goal

pub returns-in-1 : goal.returns-in-1
unfolding PgExternReturn
returns-in-1 g c = tags_in pg_extern_returns c.u8.ensures.runs c.u8.ensures.value 1 c.in-1.is refl nothing_in

pub returns-in-2-to-3 : goal.returns-in-2-to-3
unfolding PgExternReturn
returns-in-2-to-3 g c = tags_of_two pg_extern_returns c.u8.ensures.runs c.u8.ensures.value 2 (omega arith) (omega arith) refl refl c.used_type.ensures c.used_type.ensures

pub returns-in-4 : goal.returns-in-4
unfolding PgExternReturn
returns-in-4 g c = tags_in pg_extern_returns c.u8.ensures.runs c.u8.ensures.value 4 c.in-4.is refl c.aggregate_type_list.ensures

pub returns-in-5 : goal.returns-in-5
unfolding PgExternReturn
returns-in-5 g c = tags_in pg_extern_returns c.u8.ensures.runs c.u8.ensures.value 5 c.in-5.is refl nothing_in

pub returns-in_default : goal.returns-in_default
unfolding PgExternReturn
returns-in_default g c = tags_wrong pg_extern_returns c.u8.ensures.runs c.u8.ensures.value c.place-begin.ensures (omega arith) refl c.refuse.ensures
