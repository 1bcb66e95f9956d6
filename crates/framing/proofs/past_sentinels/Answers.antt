-- From sentinel to sentinel.
use mathlib.Core.Path.{sym, ap, ◌∙◌}
use native.Mathlib.Omega.{arith}
use Rattle.framing.specs.Places.{past_sentinels}
use Rattle.framing.proofs.Sentinels.{sentinel_whole, end_inside, past_stay, past_on}
use Rattle.framing.proofs.past_sentinels.Goals as goal

pub loop-at-smaller : goal.loop-at-smaller
loop-at-smaller c =
    let args = c.args in
    let w = sentinel_whole args.s.now c.loop-at.at (sym c.sentinel_at.ensures ∙ c.loop-at-test.true) in
    omega (arith, w, end_inside args.s.now c.loop-at.at w, c.entry_end-at.ensures)

pub loop-at-preserved : goal.loop-at-preserved
loop-at-preserved c =
    let args = c.args in
    c.loop-at.invariant ∙ past_on args.s.now c.loop-at.at (sym c.sentinel_at.ensures ∙ c.loop-at-test.true)
    ∙ ap (past_sentinels args.s.now) (sym c.entry_end-at.ensures)

pub returns : goal.returns
returns c =
    let none = sym c.sentinel_at.ensures ∙ c.loop-at-test.false in
    record { value = sym (c.loop-at.invariant ∙ past_stay c.args.s.now c.loop-at.at none); result_value = none }
