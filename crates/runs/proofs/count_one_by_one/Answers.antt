-- The pairs of one more mark with those after it.
use native.Mathlib.Omega.{arith}
use Rattle.runs.proofs.OneByOne.{few_there, pairs_there}
use Rattle.runs.proofs.count_one_by_one.Goals as goal

pub loop-i-preserved : goal.loop-i-preserved
loop-i-preserved c =
    let few = few_there c.args.s.now c.args.marks.now c.loop-i.i _ _ (omega arith) c.from.ensures c.equals-count.ensures in
    let there = pairs_there c.args.s.now c.args.marks.now c.loop-i.i _ _ (omega arith) c.from.ensures c.equals-count.ensures in
    record { small = omega (arith, few); is = omega (arith, there) }
