-- One more mark is equal or not.
use native.Mathlib.Omega.{arith}
use mathlib.Core.Bool.{cond}
use mathlib.Core.Path.{◌≡◌, refl, ◌∙◌}
use Rattle.std.proofs.lemmas.Grind.{common_steps}
use Rattle.paths.proofs.Walk.{later_holds, later_on, later_ends}
use Rattle.paths.proofs.equals.Goals as goal

pub loop-other-init : goal.loop-other-init
loop-other-init c = record { same = refl; later = later_holds c.args.mark c.requires }

pub loop-other-preserved : goal.loop-other-preserved
loop-other-preserved c =
    let loop = c.loop-other.invariant in
    let next = c.in-Some.ensures in
    let one : c.from-count.result ≡ cond c.repeats.result 1 0 = grind (arith, common_steps) in
    record { same = next.same_section ∙ loop.same; later = rw (next.same_section, one) (later_on loop.later _ _ next.first c.repeats.result (rw next.same_section at c.repeats.ensures)) }

pub returns : goal.returns
returns c =
    let loop = c.loop-other.invariant in
    rw (← loop.same) (later_ends loop.later c.in_default.ensures.first)
