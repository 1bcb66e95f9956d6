-- No pair is open after the first i bytes, which are ASCII from a on.
use Rattle.std.proofs.Common.{◌≡◌, ◌-◌, ◌≤◌, length}
use Rattle.text.specs.Private.{Ascii, StaysClosed}
use Rattle.text.proofs.ascii_pairs.Given as goal

abbrev pub invariant-loop-i : goal.invariant-loop-i
invariant-loop-i l = (l.n ≡ length l.s) × (l.a ≤ l.i) × (l.i ≤ l.n) × Ascii l.s l.a l.i × StaysClosed l.s l.a l.a l.i l.end

abbrev pub decreases-loop-i : goal.decreases-loop-i
decreases-loop-i l = l.n - l.i
