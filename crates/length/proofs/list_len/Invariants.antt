-- The total is the length without the items that are left.
use Prim.Native.Nat.{◌+◌, ◌≤◌}
use mathlib.Core.Path.{◌≡◌}
use lib.ListN.{drop}
use Rattle.layout.specs.Answers.{limit}
use Rattle.length.specs.Length.{sum, list_length}
use Rattle.length.proofs.list_len.Given as goal

abbrev pub invariant-loop-item : goal.invariant-loop-item
invariant-loop-item l = (l.total ≤ limit) × (list_length l.items ≡ l.total + sum (drop l.item-index l.items))
