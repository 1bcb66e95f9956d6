-- The marks of the texts passed stand in the work, as far as there is room.
use Prim.Native.Nat.{◌-◌}
use mathlib.Core.Path.{◌≡◌}
use lib.ListN.{length}
use Rattle.paths.proofs.Places.{SoFar}
use Rattle.paths.proofs.find_paths.Given as goal

abbrev pub invariant-loop-mark : goal.invariant-loop-mark
invariant-loop-mark l = record {
  length_is : length l.work ≡ length l.initial.work;
  same : l.marks.s ≡ l.initial.marks.s;
  so_far : SoFar l.marks.s.now l.work l.marks.at l.found;
}

abbrev pub decreases-loop-mark : goal.decreases-loop-mark
decreases-loop-mark l = length l.marks.s.now - l.marks.at
