-- No room, or one mark more.
use mathlib.Core.Path.{refl, ◌∙◌}
use lib.ListN.{length-set}
use Rattle.paths.proofs.Places.{so_far_none, so_far_full, so_far_on, so_far_all}
use Rattle.paths.proofs.find_paths.Goals as goal
use Rattle.paths.proofs.find_paths.Goals.{then-found-work, else-found-work}

pub loop-mark-init : goal.loop-mark-init
loop-mark-init c = record { length_is = refl; same = refl; so_far = so_far_none c.requires }

pub loop-mark-preserved : goal.loop-mark-preserved
loop-mark-preserved c =
    let loop = c.loop-mark.invariant in
    let next = c.in-Some.ensures in
    elim c.if-found-work.branch [
      | then-found-work w ↦ rw w.work-is (record {
        length_is = length-set c.loop-mark.work c.loop-mark.found _ ∙ loop.length_is;
        same = next.same_section ∙ loop.same;
        so_far = rw (next.same_section, w.from.ensures) (so_far_on loop.so_far _ _ next.first w.if-found-work.true);
      })
      | else-found-work w ↦ rw w.work-is (record {
        length_is = loop.length_is;
        same = next.same_section ∙ loop.same;
        so_far = rw next.same_section (so_far_full loop.so_far _ _ next.first w.if-found-work.false);
      })
    ]

pub returns : goal.returns
returns c =
    let loop = c.loop-mark.invariant in
    rw (← loop.same) (so_far_all loop.so_far c.in_default.ensures.first)
