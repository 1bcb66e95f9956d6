-- Nothing is wanted in the state Start alone.
use Rattle.std.proofs.Common.{◌≡◌, ℕ, ◌≤◌, Bool, true, false, cond, List, length, ap, refl, ◌∙◌}
use Rattle.std.specs.Bool.{then_some}
use Rattle.text.proofs.Codes.{is_start}
use Rattle.parts.specs.Names.{SqlStart, starts_at, not_utf8, ExactStart, Standing, most_held, StandsAfter, walk_answer, standing, start_of}
use Rattle.parts.proofs.Names.{walk_answer_lem, start_exact}
use Rattle.parts.proofs.NameWalk.answer.Goals as goal

-- The second promise follows from the first
exactly : (w : Standing) (a : SqlStart) → a ≡ walk_answer w → (l : List ℕ) → length l ≤ most_held → StandsAfter l w → ExactStart l a
exactly w a e l h s = (start_exact l a).0 (e ∙ ap walk_answer s ∙ walk_answer_lem l h)

started : (t : Bool) (k : ℕ) → start_of (then_some t k) ≡ cond t (starts_at k) not_utf8
started true k = refl
started false k = refl

pub returns : goal.returns
unfolding walk_answer
returns c =
    let self = c.args.self in
    let start = c.eq.ensures ∙ is_start self.state in
    let e : start_of c.then_some.result ≡ walk_answer (standing self) = ap start_of c.then_some.ensures ∙ started c.eq.result self.start ∙ ap (λ (t : Bool). cond t (starts_at self.start) not_utf8) start in
    record { result_value = e; by_index = exactly (standing self) (start_of c.then_some.result) e }
