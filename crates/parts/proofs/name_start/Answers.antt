-- The walk over the whole name.
use mathlib.Core.Path.{ap, ◌∙◌}
use borrow.Author.Rules.{rules}
use Rattle.parts.specs.Names.{Standing, StandsAfter, standing, walk_answer, walked_over}
use Rattle.parts.proofs.Names.{walk_answer_lem, start_exact}
use Rattle.parts.proofs.name_start.Goals as goal

pub returns : goal.returns
returns c =
    let name = c.args.name.now in
    let whole : StandsAfter name (standing c.walk.result) = c.walk.ensures.result_value ∙ ap (λ (w : Standing). walked_over w name) c.new.ensures in
    let e = c.answer.ensures.result_value ∙ ap walk_answer whole ∙ walk_answer_lem name (search rules) in
    record { result_value = e; exact_start = (start_exact name _).0 e }
