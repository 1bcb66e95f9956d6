-- Each known tag, and the rest.
use native.Mathlib.Omega.{arith}
use mathlib.Core.Path.{refl}
use Rattle.layout.specs.Entities.{SqlArrayMapping, sql_array_mappings}
use Rattle.pass.proofs.Passes.{nothing_in, tags_in, tags_wrong}
use Rattle.metadata.proofs.sql_array_mapping.Goals as goal

pub returns-in-1 : goal.returns-in-1
unfolding SqlArrayMapping
returns-in-1 g c = tags_in sql_array_mappings c.u8.ensures.runs c.u8.ensures.value 1 c.in-1.is refl c.str.ensures

pub returns-in-3 : goal.returns-in-3
unfolding SqlArrayMapping
returns-in-3 g c = tags_in sql_array_mappings c.u8.ensures.runs c.u8.ensures.value 3 c.in-3.is refl c.numeric.ensures

pub returns-in-4 : goal.returns-in-4
unfolding SqlArrayMapping
returns-in-4 g c = tags_in sql_array_mappings c.u8.ensures.runs c.u8.ensures.value 4 c.in-4.is refl nothing_in

pub returns-in_default : goal.returns-in_default
unfolding SqlArrayMapping
returns-in_default g c = tags_wrong sql_array_mappings c.u8.ensures.runs c.u8.ensures.value c.place-begin.ensures (omega arith) refl c.refuse.ensures
