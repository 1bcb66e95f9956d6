-- Each known tag, and the rest.
use native.Mathlib.Omega.{arith}
use mathlib.Core.Path.{refl}
use Rattle.layout.specs.Entities.{TypeOrigin, type_origins}
use Rattle.pass.proofs.Passes.{nothing_in, tags_of_two, tags_wrong}
use Rattle.metadata.proofs.type_origin.Goals as goal

pub returns-in-1-to-2 : goal.returns-in-1-to-2
unfolding TypeOrigin
returns-in-1-to-2 g c = tags_of_two type_origins c.u8.ensures.runs c.u8.ensures.value 1 (omega arith) (omega arith) refl refl nothing_in nothing_in

pub returns-in_default : goal.returns-in_default
unfolding TypeOrigin
returns-in_default g c = tags_wrong type_origins c.u8.ensures.runs c.u8.ensures.value c.place-begin.ensures (omega arith) refl c.refuse.ensures
