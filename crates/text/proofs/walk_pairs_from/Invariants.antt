-- The low six bits of x are the code of the state after the first i bytes, and no pair is open there.
use Rattle.std.proofs.Common.{◌≡◌, ◌-◌, ◌%◌, ◌≤◌, length, take}
use Rattle.text.specs.Private.{code, StaysClosed}
use Rattle.text.specs.Walk.{State, wanted_after}
use Rattle.text.proofs.walk_pairs_from.Given as goal

abbrev pub invariant-loop-i : goal.invariant-loop-i
invariant-loop-i l =
    (l.n ≡ length l.s)
    × (l.i ≤ l.n)
    × ((p : State) → l.initial.x ≡ code (wanted_after p (take l.initial.i l.s)) → l.x % 64 ≡ code (wanted_after p (take l.i l.s)))
    × StaysClosed l.s l.initial.i l.initial.end l.i l.end

abbrev pub decreases-loop-i : goal.decreases-loop-i
decreases-loop-i l = l.n - l.i
