-- The entries passed have no full_path.
use Prim.Native.Nat.{◌-◌}
use mathlib.Core.Path.{◌≡◌}
use lib.ListN.{length}
use Rattle.paths.proofs.Walk.{Passed}
use Rattle.paths.proofs.Marks.next.Given as goal

abbrev pub invariant-loop-payload : goal.invariant-loop-payload
invariant-loop-payload l = record {
  same : l.self.s ≡ l.initial.self.s;
  passed : Passed l.self.s.now l.initial.self.at l.self.at;
}

abbrev pub decreases-loop-payload : goal.decreases-loop-payload
decreases-loop-payload l = length l.self.s.now - l.self.at
