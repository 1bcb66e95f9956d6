-- Too many bytes, or the answer at the end.
use mathlib.Core.Path.{ap, ◌∙◌}
use borrow.Author.Tests.{lt-leb, le-leb}
use Rattle.table.specs.Answers.{result_of}
use Rattle.reading.specs.State.{ReadState}
use Rattle.reading.specs.Answered.{answered, answered_alone}
use Rattle.leaf.proofs.Reader.answer_alone.Goals as goal

pub returns-then-self-gt-LIMIT-clause-answer : goal.returns-then-self-gt-LIMIT-clause-answer
unfolding answered_alone
returns-then-self-gt-LIMIT-clause-answer c = rw (lt-leb _ _ c.if-self-gt-LIMIT.true) c.refuse.ensures

pub returns-clause-answer : goal.returns-clause-answer
unfolding answered_alone
returns-clause-answer c = rw (le-leb _ _ c.if-self-gt-LIMIT.false) (ap (λ (st : ReadState). result_of c.answer-answer.result st.table) c.resume.ensures.state ∙ c.answer-answer.ensures.answer ∙ ap (answered c.args.entities) c.finish.ensures.state)
