-- The equal ones of the marks passed are counted.
use Prim.Native.Nat.{◌-◌}
use mathlib.Core.Path.{◌≡◌}
use lib.ListN.{length}
use Rattle.paths.proofs.Walk.{Later}
use Rattle.paths.proofs.equals.Given as goal

abbrev pub invariant-loop-other : goal.invariant-loop-other
invariant-loop-other l = record {
  same : l.marks.s ≡ l.initial.marks.s;
  later : Later l.marks.s.now l.initial.marks.at l.mark l.marks.at l.count;
}

abbrev pub decreases-loop-other : goal.decreases-loop-other
decreases-loop-other l = length l.marks.s.now - l.marks.at
