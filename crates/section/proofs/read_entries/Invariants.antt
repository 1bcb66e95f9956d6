-- From entry to entry, as long as there are whole ones.
use Prim.Native.Nat.{◌-◌}
use lib.ListN.{length}
use Rattle.section.proofs.Reached.{Reached}
use Rattle.section.proofs.read_entries.Given as goal

abbrev pub invariant-loop-at : goal.invariant-loop-at
invariant-loop-at l = Reached l.initial.reader l.at l.end l.reader l.entities

abbrev pub decreases-loop-at : goal.decreases-loop-at
decreases-loop-at l = length l.s - l.at
