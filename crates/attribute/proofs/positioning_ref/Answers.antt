-- Each known tag, and the rest.
use native.Mathlib.Omega.{arith}
use mathlib.Core.Path.{refl}
use Rattle.layout.specs.Entities.{PositioningRef, positioning_refs}
use Rattle.pass.proofs.Passes.{tags_of_two, tags_wrong}
use Rattle.attribute.proofs.positioning_ref.Goals as goal

pub returns-in-1-to-2 : goal.returns-in-1-to-2
unfolding PositioningRef
returns-in-1-to-2 g c = tags_of_two positioning_refs c.u8.ensures.runs c.u8.ensures.value 1 (omega arith) (omega arith) refl refl c.str.ensures c.str.ensures

pub returns-in_default : goal.returns-in_default
unfolding PositioningRef
returns-in_default g c = tags_wrong positioning_refs c.u8.ensures.runs c.u8.ensures.value c.place-begin.ensures (omega arith) refl c.refuse.ensures
