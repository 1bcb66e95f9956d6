-- From sentinel to sentinel.
use Prim.Native.Nat.{◌-◌}
use lib.ListN.{length}
use mathlib.Core.Path.{◌≡◌}
use Rattle.framing.specs.Places.{past_sentinels}
use Rattle.framing.proofs.past_sentinels.Given as goal

abbrev pub invariant-loop-at : goal.invariant-loop-at
invariant-loop-at l = past_sentinels l.s l.from ≡ past_sentinels l.s l.at

abbrev pub decreases-loop-at : goal.decreases-loop-at
decreases-loop-at l = length l.s - l.at
