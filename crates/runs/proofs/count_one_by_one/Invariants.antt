-- The pairs of the marks before a place with those after them are counted.
use Prim.Native.Nat.{◌+◌, ◌*◌, ◌≤◌}
use mathlib.Core.Path.{◌≡◌}
use lib.ListN.{drop}
use Rattle.layout.specs.Answers.{limit}
use Rattle.runs.specs.Runs.{kinds_and_texts, pairs}
use Rattle.runs.proofs.count_one_by_one.Given as goal

abbrev pub invariant-loop-i : goal.invariant-loop-i
invariant-loop-i l = record {
  small : l.count ≤ limit * l.i;
  is : l.count + pairs (kinds_and_texts l.s (drop l.i l.marks)) ≡ pairs (kinds_and_texts l.s l.marks);
}
