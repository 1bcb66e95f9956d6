-- Each known tag, and the rest.
use native.Mathlib.Omega.{arith}
use mathlib.Core.Path.{refl}
use Rattle.layout.specs.Entities.{SqlMapping, sql_mappings}
use Rattle.pass.proofs.Passes.{nothing_in, tags_in, tags_of_two, tags_wrong}
use Rattle.metadata.proofs.sql_mapping.Goals as goal

pub returns-in-1 : goal.returns-in-1
unfolding SqlMapping
returns-in-1 g c = tags_in sql_mappings c.u8.ensures.runs c.u8.ensures.value 1 c.in-1.is refl c.str.ensures

pub returns-in-2 : goal.returns-in-2
unfolding SqlMapping
returns-in-2 g c = tags_in sql_mappings c.u8.ensures.runs c.u8.ensures.value 2 c.in-2.is refl c.sql_array_mapping.ensures

pub returns-in-3 : goal.returns-in-3
unfolding SqlMapping
returns-in-3 g c = tags_in sql_mappings c.u8.ensures.runs c.u8.ensures.value 3 c.in-3.is refl c.numeric.ensures

pub returns-in-4-to-5 : goal.returns-in-4-to-5
unfolding SqlMapping
returns-in-4-to-5 g c = tags_of_two sql_mappings c.u8.ensures.runs c.u8.ensures.value 4 (omega arith) (omega arith) refl refl nothing_in nothing_in

pub returns-in_default : goal.returns-in_default
unfolding SqlMapping
returns-in_default g c = tags_wrong sql_mappings c.u8.ensures.runs c.u8.ensures.value c.place-begin.ensures (omega arith) refl c.refuse.ensures
