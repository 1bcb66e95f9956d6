-- The entries of the rows before index i are stored; whatever the others come to, all rows do.
use Prim.Native.Nat.{◌-◌, ◌≤◌}
use mathlib.Core.Path.{◌≡◌}
use lib.ListN.{length}
use Rattle.layout.specs.Answers.{whole_rows}
use Rattle.storing.specs.Private.{Spot}
use Rattle.storing.specs.Output.{spot_of}
use Rattle.storing.proofs.Entries.{Leads}
use Rattle.storing.proofs.store_entries.Given as goal

abbrev pub invariant-loop-i : goal.invariant-loop-i
invariant-loop-i l =
    (l.out.dest.ghost_name ≡ l.initial.out.dest.ghost_name) × (l.out.at ≤ length l.out.dest.now)
    × ((q : Spot) → Leads l.rows l.text l.i (spot_of l.out) q → Leads l.rows l.text 0 (spot_of l.initial.out) q)

abbrev pub decreases-loop-i : goal.decreases-loop-i
decreases-loop-i l = whole_rows l.rows - l.i
