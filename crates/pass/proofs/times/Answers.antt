-- The items, up to the last one or to a refusal.
use Rattle.pass.proofs.Passes.{none_passed, one_more, all_passed, refused_passed}
use Rattle.pass.proofs.times.Goals as goal

pub loop-init : goal.loop-init
loop-init g c L f = none_passed

pub returns-then-is_refused : goal.returns-then-is_refused
returns-then-is_refused g c L f = refused_passed g.met.P.Pass.stays (c.loop.invariant L f) (c.is_refused.ensures.0 c.if-is_refused.true)

pub loop-preserved : goal.loop-preserved
loop-preserved g c L f = one_more (c.loop.invariant L f) c.loop-test.true (f _ _ c.item.ensures)

pub returns : goal.returns
returns g c L f = all_passed (c.loop.invariant L f) c.loop-test.false
