-- From boundary to boundary.
use Rattle.framing.proofs.Entries.{next_end, none_here}
use mathlib.Core.Path.{sym, ◌∙◌}
use native.Mathlib.Omega.{arith}
use Rattle.framing.proofs.framing_from.Goals as goal

pub loop-at-smaller : goal.loop-at-smaller
loop-at-smaller c =
    let args = c.args in
    let bytes = c.type_inv.s in
    let loop = c.loop-at in
    omega (arith, c.loop-at-test.true, (next_end args.s.now (λ i h. omega (arith, bytes i)) loop.at loop.end loop.invariant.1 c.loop-at-test.true).0)

pub loop-at-preserved : goal.loop-at-preserved
loop-at-preserved c =
    let args = c.args in
    let bytes = c.type_inv.s in
    let loop = c.loop-at in
    (loop.invariant.0 ∙ (next_end args.s.now (λ i h. omega (arith, bytes i)) loop.at loop.end loop.invariant.1 c.loop-at-test.true).1, c.entry_end-end-in-loop-at.ensures)

pub framing_at-requires : goal.framing_at-requires
framing_at-requires c = none_here c.args.s.now c.loop-at.at (omega (arith, c.loop-at-test.false, c.loop-at.invariant.1))

pub returns : goal.returns
returns c = c.framing_at.ensures ∙ sym c.loop-at.invariant.0
