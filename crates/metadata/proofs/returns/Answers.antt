-- Each known tag, and the rest.
use native.Mathlib.Omega.{arith}
use mathlib.Core.Path.{refl}
use Rattle.layout.specs.Entities.{Returns, returns_tags}
use Rattle.pass.proofs.Passes.{tags_in, tags_of_two, tags_wrong}
use Rattle.metadata.proofs.returns.Goals as goal

pub returns-in-1-to-2 : goal.returns-in-1-to-2
unfolding Returns
returns-in-1-to-2 g c = tags_of_two returns_tags c.u8.ensures.runs c.u8.ensures.value 1 (omega arith) (omega arith) refl refl c.sql_mapping.ensures c.sql_mapping.ensures

pub returns-in-3 : goal.returns-in-3
unfolding Returns
returns-in-3 g c = tags_in returns_tags c.u8.ensures.runs c.u8.ensures.value 3 c.in-3.is refl c.sql_mapping_list.ensures

pub returns-in_default : goal.returns-in_default
unfolding Returns
returns-in_default g c = tags_wrong returns_tags c.u8.ensures.runs c.u8.ensures.value c.place-begin.ensures (omega arith) refl c.refuse.ensures
