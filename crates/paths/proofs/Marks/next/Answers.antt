-- The entries passed have no full_path.
use mathlib.Core.Path.{refl, ◌∙◌, subst}
use Rattle.paths.specs.Private.{NoneLeft}
use Rattle.paths.proofs.Walk.{passed_none, passed_on, passed_first, passed_all}
use Rattle.paths.proofs.Marks.next.Goals as goal

pub loop-payload-init : goal.loop-payload-init
loop-payload-init c = record { same = refl; passed = passed_none c.requires }

pub returns-in-Some-path_mark-clause-first : goal.returns-in-Some-path_mark-clause-first
returns-in-Some-path_mark-clause-first c =
    let loop = c.loop-payload.invariant in
    let next = c.in-Some.ensures in
    rw (← loop.same) (passed_first loop.passed (rw next.same_section at c.in-Some-path_mark.ensures) next.first.1)

pub loop-payload-preserved : goal.loop-payload-preserved
loop-payload-preserved c =
    let loop = c.loop-payload.invariant in
    let next = c.in-Some.ensures in
    record { same = next.same_section ∙ loop.same; passed = rw next.same_section (passed_on loop.passed (rw next.same_section at c.in_default-path_mark.ensures) next.first.1) }

pub returns-clause-first : goal.returns-clause-first
returns-clause-first c =
    let loop = c.loop-payload.invariant in
    subst (λ x. NoneLeft x.now c.args.self.now.at) loop.same (passed_all loop.passed c.in_default.ensures.first)
