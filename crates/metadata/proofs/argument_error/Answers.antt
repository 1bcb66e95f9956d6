-- Each known tag, and the rest.
use native.Mathlib.Omega.{arith}
use mathlib.Core.Path.{refl}
use lib.ListN.{drop}
use Rattle.layout.specs.Entities.{ArgumentError, argument_errors}
use Rattle.pass.proofs.Passes.{tags_bare, tags_in, tags_wrong}
use Rattle.metadata.proofs.argument_error.Goals as goal

pub returns-in-1-to-6 : goal.returns-in-1-to-6
unfolding ArgumentError
returns-in-1-to-6 g c = tags_bare 1 6 (drop 6 argument_errors) c.u8.ensures.runs c.u8.ensures.value (omega arith) (omega arith)

pub returns-in-7 : goal.returns-in-7
unfolding ArgumentError
returns-in-7 g c = tags_in argument_errors c.u8.ensures.runs c.u8.ensures.value 7 c.in-7.is refl c.str.ensures

pub returns-in_default : goal.returns-in_default
unfolding ArgumentError
returns-in_default g c = tags_wrong argument_errors c.u8.ensures.runs c.u8.ensures.value c.place-begin.ensures (omega arith) refl c.refuse.ensures
