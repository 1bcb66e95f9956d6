-- Each known tag, and the rest.
use native.Mathlib.Omega.{arith}
use mathlib.Core.List.{[]}
use mathlib.Core.Path.{refl}
use Rattle.layout.specs.Entities.{ParallelOption, parallel_options}
use Rattle.pass.proofs.Passes.{tags_bare, tags_wrong}
use Rattle.entity.proofs.parallel_option.Goals as goal

pub returns-in-1-to-3 : goal.returns-in-1-to-3
unfolding ParallelOption
returns-in-1-to-3 g c = tags_bare 1 3 [] c.u8.ensures.runs c.u8.ensures.value (omega arith) (omega arith)

pub returns-in_default : goal.returns-in_default
unfolding ParallelOption
returns-in_default g c = tags_wrong parallel_options c.u8.ensures.runs c.u8.ensures.value c.place-begin.ensures (omega arith) refl c.refuse.ensures
