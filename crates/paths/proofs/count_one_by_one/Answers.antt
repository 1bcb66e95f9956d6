-- The pairs of one more text with those after it.
use mathlib.Core.Path.{refl, ◌∙◌, subst}
use Rattle.paths.specs.Private.{Counts}
use Rattle.paths.proofs.Walk.{before_holds, before_on, before_ends}
use Rattle.paths.proofs.count_one_by_one.Goals as goal

pub loop-mark-init : goal.loop-mark-init
loop-mark-init c = record { same = refl; before = before_holds c.requires }

pub loop-mark-preserved : goal.loop-mark-preserved
loop-mark-preserved c =
    let loop = c.loop-mark.invariant in
    let next = c.in-Some.ensures in
    record { same = next.same_section ∙ loop.same; before = rw next.same_section (before_on loop.before _ _ _ next.first (rw next.same_section at c.equals-count.ensures)) }

pub returns : goal.returns
returns c =
    let loop = c.loop-mark.invariant in
    subst (λ x. Counts x.now 0 c.loop-mark.count) loop.same (before_ends loop.before c.in_default.ensures.first)
