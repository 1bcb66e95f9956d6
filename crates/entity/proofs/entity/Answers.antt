-- Each known kind, and the rest.
use native.Mathlib.Omega.{arith}
use mathlib.Core.Path.{refl}
use Rattle.layout.specs.Entities.{Entity, entity_kinds}
use Rattle.pass.proofs.Passes.{kinds_in, kinds_of_two, kinds_wrong}
use Rattle.entity.proofs.entity.Goals as goal

pub returns-in-1 : goal.returns-in-1
unfolding Entity
returns-in-1 g c = kinds_in entity_kinds c.kind.ensures.runs c.kind.ensures.value 1 c.in-1.is refl c.schema.ensures

pub returns-in-2 : goal.returns-in-2
unfolding Entity
returns-in-2 g c = kinds_in entity_kinds c.kind.ensures.runs c.kind.ensures.value 2 c.in-2.is refl c.custom_sql.ensures

pub returns-in-3 : goal.returns-in-3
unfolding Entity
returns-in-3 g c = kinds_in entity_kinds c.kind.ensures.runs c.kind.ensures.value 3 c.in-3.is refl c.function.ensures

pub returns-in-4 : goal.returns-in-4
unfolding Entity
returns-in-4 g c = kinds_in entity_kinds c.kind.ensures.runs c.kind.ensures.value 4 c.in-4.is refl c.postgres_type.ensures

pub returns-in-5 : goal.returns-in-5
unfolding Entity
returns-in-5 g c = kinds_in entity_kinds c.kind.ensures.runs c.kind.ensures.value 5 c.in-5.is refl c.postgres_enum.ensures

pub returns-in-6-to-7 : goal.returns-in-6-to-7
unfolding Entity
returns-in-6-to-7 g c = kinds_of_two entity_kinds c.kind.ensures.runs c.kind.ensures.value 6 (omega arith) (omega arith) refl refl c.ord_or_hash.ensures c.ord_or_hash.ensures

pub returns-in-8 : goal.returns-in-8
unfolding Entity
returns-in-8 g c = kinds_in entity_kinds c.kind.ensures.runs c.kind.ensures.value 8 c.in-8.is refl c.aggregate.ensures

pub returns-in-9 : goal.returns-in-9
unfolding Entity
returns-in-9 g c = kinds_in entity_kinds c.kind.ensures.runs c.kind.ensures.value 9 c.in-9.is refl c.trigger.ensures

pub returns-in_default : goal.returns-in_default
unfolding Entity
returns-in_default g c = kinds_wrong entity_kinds c.kind.ensures.runs c.kind.ensures.value c.place-begin.ensures (omega arith) refl c.refuse.ensures
