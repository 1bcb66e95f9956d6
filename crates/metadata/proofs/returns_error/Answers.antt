-- Each known tag, and the rest.
use native.Mathlib.Omega.{arith}
use mathlib.Core.List.{[]}
use mathlib.Core.Path.{refl}
use Rattle.layout.specs.Entities.{ReturnsError, returns_errors}
use Rattle.pass.proofs.Passes.{tags_bare, tags_wrong}
use Rattle.metadata.proofs.returns_error.Goals as goal

pub returns-in-1-to-10 : goal.returns-in-1-to-10
unfolding ReturnsError
returns-in-1-to-10 g c = tags_bare 1 10 [] c.u8.ensures.runs c.u8.ensures.value (omega arith) (omega arith)

pub returns-in_default : goal.returns-in_default
unfolding ReturnsError
returns-in_default g c = tags_wrong returns_errors c.u8.ensures.runs c.u8.ensures.value c.place-begin.ensures (omega arith) refl c.refuse.ensures
