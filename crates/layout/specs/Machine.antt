-- A pass over a layout, leaf by leaf, that carries a state: a reading's cursor with its table, or a writer.
use Rattle.std.specs.Prelude.{ℕ, List}
use Rattle.layout.specs.Layout.{Sort, Leaf, values_of, Fault, Verdict, fine, wrong, Layout, nothing, one, text, ◌then◌, case, check}
use Rattle.layout.specs.Reading.{Outcome, ok, refuse}

-- A step for each sort of leaf, and what the branches and the judges of a layout need
pub record Machine (T : Type 0) : Type 0 where
  pub plain_step : Sort → T → T
  pub text_step : T → T
  -- the value of the last leaf
  pub value : T → ℕ
  -- the state refused, for a fault in what began at another state
  pub halt : Fault → (begin state : T) → T
  -- the verdict of a judge on the leaves of a layout that begin at a state
  pub verdict : Layout → (judge : List ℕ → Verdict) → T → Verdict

-- The verdict on leaves, if they were not refused
abbrev pub verdict_on : {S : Type 0} → (List ℕ → Verdict) → Outcome S (List Leaf) → Verdict
verdict_on judge (ok ls end) = judge (values_of ls)
verdict_on judge (refuse n p) = fine

module _ {T : Type 0} (M : Machine T) where
  -- A verdict applied to what began at a state
  abbrev pub pass : Verdict → (begin state : T) → T
  pass fine begin st = st
  pass (wrong f) begin st = M.halt f begin st

  -- A layout, from a state on
  unfoldable pub drive : Layout → T → T
  drive nothing st = st
  drive (one srt) st = M.plain_step srt st
  drive text st = M.text_step st
  drive (A then B) st = drive B (drive A st)
  drive (case srt A j B) st =
      let n = M.value (M.plain_step srt st) in
      drive (B n) (pass (j n) st (drive A (M.plain_step srt st)))
  drive (check A j) st = pass (M.verdict A j st) st (drive A st)
