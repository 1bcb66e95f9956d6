-- The marks from a place on: the first is the least, its run and their pairs are counted.
use Prim.Native.Nat.{◌-◌, ◌<◌}
use mathlib.Core.Path.{◌≡◌}
use lib.ListN.{length}
use Rattle.runs.proofs.Count.{From}
use Rattle.runs.proofs.count_runs.Given as goal

abbrev pub invariant-loop-i : goal.invariant-loop-i
invariant-loop-i l = record {
  some : 0 < length l.marks → From l.s l.marks (l.i - 1) l.run l.pairs;
  none : length l.marks ≡ 0 → l.pairs ≡ 0;
}
