-- The text with the bytes still to come, as far as there is room, is what was asked for.
use Prim.Native.Nat.{◌≤◌}
use mathlib.Core.List.{◌++◌}
use mathlib.Core.Path.{◌≡◌}
use lib.ListN.{length, take, drop}
use Rattle.fixed_text.proofs.FixedText.extend_from_slice.Given as goal

abbrev pub invariant-loop-byte : goal.invariant-loop-byte
invariant-loop-byte g l = (take g.row.N (l.self ++ drop l.byte-index l.more) ≡ take g.row.N (l.fn.self ++ l.more)) × (length l.self ≤ g.row.N)
