-- The bytes from a up to i are stored, and whole blocks are left.
use Prim.Native.Nat.{◌-◌, ◌%◌, ◌≤◌}
use mathlib.Core.Path.{◌≡◌}
use lib.ListN.{length}
use Rattle.paste.specs.Private.{copied}
use Rattle.paste.proofs.copy_blocks.Given as goal

abbrev pub invariant-loop-i : goal.invariant-loop-i
invariant-loop-i l = (l.a ≤ l.i) × (l.i ≤ l.e) × ((l.e - l.i) % 8 ≡ 0) × (length l.out ≡ length l.initial.out) × (l.out ≡ copied l.initial.out l.at l.bytes l.a l.i)

abbrev pub decreases-loop-i : goal.decreases-loop-i
decreases-loop-i l = l.e - l.i
