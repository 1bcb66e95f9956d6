-- Of the nine states, start alone has a transition for a colon.
use Rattle.std.proofs.Common.{◌≡◌, true, false, refl, ◌∙◌}
use Rattle.text.specs.Walk.{State, start, tail_1, tail_2, tail_3, after_e0, after_ed, after_f0, after_f4, failed, step, accepting}
use Rattle.text.specs.States.{state_of}
use Rattle.text.proofs.Codes.{is_start}
use Rattle.text.proofs.after_colon.Goals as goal

stays : (q : State) → true ≡ accepting q → q ≡ step q 0x3A
unfolding step
stays start e = refl
stays tail_1 e = cc
stays tail_2 e = cc
stays tail_3 e = cc
stays after_e0 e = cc
stays after_ed e = cc
stays after_f0 e = cc
stays after_f4 e = cc
stays failed e = cc

wrong : (q : State) → false ≡ accepting q → failed ≡ step q 0x3A
unfolding step
wrong start n = cc
wrong tail_1 n = refl
wrong tail_2 n = refl
wrong tail_3 n = refl
wrong after_e0 n = refl
wrong after_ed n = refl
wrong after_f0 n = refl
wrong after_f4 n = refl
wrong failed n = refl

pub returns-then-eq : goal.returns-then-eq
returns-then-eq c = stays (state_of c.args.q) (c.if-eq.ensures ∙ is_start c.args.q)

pub returns-else-eq : goal.returns-else-eq
returns-else-eq c = wrong (state_of c.args.q) (c.if-eq.ensures ∙ is_start c.args.q)
