-- Sorting keeps the pairs; runs count them, or else each mark does.
use native.Mathlib.Omega.{arith}
use mathlib.Core.Path.{◌≡◌, ◌∙◌}
use Rattle.std.proofs.Common.{rules}
use Rattle.runs.specs.Runs.{kinds_and_texts, pairs}
use Rattle.runs.proofs.Swaps.{pairs_few, pairs_many, pairs_sorted}
use Rattle.runs.proofs.equal_pairs.Goals as goal

pub returns-then-marks-gt-LIMIT : goal.returns-then-marks-gt-LIMIT
returns-then-marks-gt-LIMIT c = pairs_many c.args.s.now c.args.marks.now (omega arith)

pub returns : goal.returns
returns c =
    let args = c.args in
    let e : c.unwrap_or_else.result ≡ pairs (kinds_and_texts args.s.now c.sort_unstable_by.new.self) = search rules in
    e ∙ pairs_sorted args.s.now args.marks.now _ c.sort_unstable_by.ensures.permutation ∙ pairs_few args.s.now args.marks.now (omega arith)
