-- No byte read so far is above the bits collected so far.
use Rattle.std.proofs.Common.{le_trans, get_or, below_more}
use Rattle.text.proofs.Words.{or_l, or_r}
use Rattle.text.proofs.is_ascii.Goals as goal

pub loop-b-preserved : goal.loop-b-preserved
loop-b-preserved c =
    let loop = c.loop-b in
    let b = get_or c.args.s.now loop.b-index 0 in
    below_more _ _ (λ k h. le_trans (loop.invariant k h) (or_l loop.bits b)) (or_r loop.bits b)
