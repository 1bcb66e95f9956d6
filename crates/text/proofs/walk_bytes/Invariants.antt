-- The low six bits of x are the code of the state after the bytes so far.
use Rattle.std.proofs.Common.{◌≡◌, ◌%◌, take}
use Rattle.text.specs.Private.{code}
use Rattle.text.specs.Walk.{State, wanted_after}
use Rattle.text.proofs.walk_bytes.Given as goal

abbrev pub invariant-loop-b : goal.invariant-loop-b
invariant-loop-b l = (p : State) → l.q ≡ code p → l.x % 64 ≡ code (wanted_after p (take l.b-index l.s))
