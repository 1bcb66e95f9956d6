-- The pairs of the texts passed, with those of the rest, are all pairs.
use Prim.Native.Nat.{◌-◌}
use mathlib.Core.Path.{◌≡◌}
use lib.ListN.{length}
use Rattle.paths.proofs.Walk.{Before}
use Rattle.paths.proofs.count_one_by_one.Given as goal

abbrev pub invariant-loop-mark : goal.invariant-loop-mark
invariant-loop-mark l = record {
  same : l.marks.s ≡ l.initial.marks.s;
  before : Before l.marks.s.now l.marks.at l.count;
}

abbrev pub decreases-loop-mark : goal.decreases-loop-mark
decreases-loop-mark l = length l.marks.s.now - l.marks.at
