-- The rows before index i are stored; the others are still to come.
use Prim.Native.Nat.{◌-◌, ◌≤◌}
use mathlib.Core.Path.{◌≡◌}
use lib.ListN.{length}
use Rattle.layout.specs.Answers.{whole_rows}
use Rattle.storing.specs.Private.{stored_rows}
use Rattle.storing.specs.Output.{spot_of}
use Rattle.storing.proofs.store.Given as goal

abbrev pub invariant-loop-i : goal.invariant-loop-i
invariant-loop-i l =
    (l.out.dest.ghost_name ≡ l.initial.out.dest.ghost_name) × (l.out.at ≤ length l.out.dest.now)
    × (stored_rows l.rows l.text (whole_rows l.rows) 0 (spot_of l.initial.out) ≡ stored_rows l.rows l.text (whole_rows l.rows - l.i) l.i (spot_of l.out))
