-- The rows of the entity before index i are stored; the others are still to come.
use Prim.Native.Nat.{◌-◌, ◌≤◌}
use mathlib.Core.Path.{◌≡◌}
use lib.ListN.{length}
use Rattle.layout.specs.Answers.{whole_rows}
use Rattle.storing.specs.Private.{stored_rows, next_kind}
use Rattle.storing.specs.Output.{spot_of}
use Rattle.storing.proofs.Output.push_payload.Given as goal

abbrev pub invariant-loop-i : goal.invariant-loop-i
invariant-loop-i l =
    (l.self.dest.ghost_name ≡ l.initial.self.dest.ghost_name) × (l.initial.self.at ≤ l.self.at) × (l.self.at ≤ length l.self.dest.now)
    × (next_kind l.rows (whole_rows l.rows - l.initial.i) l.initial.i ≡ next_kind l.rows (whole_rows l.rows - l.i) l.i)
    × (stored_rows l.rows l.text (next_kind l.rows (whole_rows l.rows - l.initial.i) l.initial.i - l.initial.i) l.initial.i (spot_of l.initial.self) ≡ stored_rows l.rows l.text (next_kind l.rows (whole_rows l.rows - l.initial.i) l.initial.i - l.i) l.i (spot_of l.self))
