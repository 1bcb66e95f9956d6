-- No length, one that is too long, or a whole entry.
use Rattle.raw_bytes.proofs.Number.{number_some}
use Rattle.framing.proofs.Entries.{entry_here, entry_zero, entry_long}
use mathlib.Core.Path.{sym, ap, ◌∙◌}
use native.Mathlib.Omega.{arith}
use Prim.Native.Nat.{ℕ, ◌+◌}
use Rattle.framing.proofs.entry_end.Goals as goal

pub number_at-n-requires : goal.number_at-n-requires
number_at-n-requires c = tt

pub returns-then-n-eq0 : goal.returns-then-n-eq0
returns-then-n-eq0 c = sym (entry_zero c.args.s.now c.args.at (sym c.number_at-n.ensures ∙ c.if-n-eq0.true))

pub overflow_sub-s : goal.overflow_sub-s
overflow_sub-s c = omega (arith, number_some c.args.s.now c.args.at (λ e. c.if-n-eq0.false (c.number_at-n.ensures ∙ e)))

pub overflow_sub-s-2 : goal.overflow_sub-s-2
overflow_sub-s-2 c = omega (arith, number_some c.args.s.now c.args.at (λ e. c.if-n-eq0.false (c.number_at-n.ensures ∙ e)))

pub returns-then-s-at : goal.returns-then-s-at
returns-then-s-at c = sym (entry_long c.args.s.now c.args.at (omega (arith, c.number_at-n.ensures, number_some c.args.s.now c.args.at (λ e. c.if-n-eq0.false (c.number_at-n.ensures ∙ e)))))

pub returns : goal.returns
returns c =
    let e = c.number_at-n.ensures in
    ap (λ (n : ℕ). c.args.at + 4 + n) e ∙ sym (entry_here c.args.s.now c.args.at (omega (arith, e)) (omega (arith, e, number_some c.args.s.now c.args.at (λ i. c.if-n-eq0.false (e ∙ i)))))
