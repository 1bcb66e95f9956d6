-- One more mark in front of those counted: less than the first, or equal to it.
use native.Mathlib.Omega.{arith}
use Rattle.runs.proofs.Count.{from_equal, from_less}
use Rattle.runs.proofs.count_runs.Goals as goal

pub loop-i-preserved-in-Less : goal.loop-i-preserved-in-Less
loop-i-preserved-in-Less c = record {
  some = λ h. from_less (c.loop-i.invariant.some h) _ (omega arith) cc;
  none = λ z. omega arith;
}

pub loop-i-preserved : goal.loop-i-preserved
loop-i-preserved c = record {
  some = λ h. from_equal (c.loop-i.invariant.some h) _ (omega arith) c.requires cc;
  none = λ z. omega arith;
}
