-- From boundary to boundary.
use Rattle.framing.specs.Framing.{framing_from}
use Rattle.framing.specs.Answers.{end_of}
use Rattle.framing.specs.Places.{entry_end}
use lib.ListN.{length}
use mathlib.Core.Path.{◌≡◌}
use Prim.Native.Nat.{◌-◌}
use Rattle.framing.proofs.framing_from.Given as goal

abbrev pub invariant-loop-at : goal.invariant-loop-at
invariant-loop-at l = (end_of (framing_from l.s l.from) ≡ end_of (framing_from l.s l.at)) × (l.end ≡ entry_end l.s l.at)

abbrev pub decreases-loop-at : goal.decreases-loop-at
decreases-loop-at l = length l.s - l.at
