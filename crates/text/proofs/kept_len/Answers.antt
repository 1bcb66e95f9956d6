-- No place above k, up to 63, is a boundary.
use Rattle.std.proofs.Common.{◌≡◌, sym, ap, ◌∙◌, arith}
use Rattle.text.specs.Kept.{boundary_up_to}
use Rattle.text.proofs.Exact.{utf8_exact}
use Rattle.text.proofs.Kept.{kept_whole, kept_up_to, lower, reached}
use Rattle.text.proofs.kept_len.Goals as goal

pub returns-then-n-le-MOST_KEPT : goal.returns-then-n-le-MOST_KEPT
returns-then-n-le-MOST_KEPT c =
    let s = c.args.s.now in
    sym (kept_whole s ((utf8_exact s).0 c.requires) c.if-n-le-MOST_KEPT.true)

pub loop-k-init : goal.loop-k-init
loop-k-init c = kept_up_to c.args.s.now

pub returns-then-not-is_tail : goal.returns-then-not-is_tail
returns-then-not-is_tail c =
    let s = c.args.s.now in
    let k = c.loop-k.k in
    sym (c.loop-k.invariant ∙ reached s k c.requires (omega arith) _ c.is_tail.ensures c.if-not-is_tail.true)

pub loop-k-preserved : goal.loop-k-preserved
loop-k-preserved c =
    let s = c.args.s.now in
    let k = c.loop-k.k in
    c.loop-k.invariant ∙ lower s k c.requires (omega arith) _ c.is_tail.ensures (omega arith) c.if-not-is_tail.false

pub returns : goal.returns
unfolding boundary_up_to
returns c =
    let s = c.args.s.now in
    let none : c.loop-k.k ≡ 0 = omega arith in
    sym (c.loop-k.invariant ∙ ap (boundary_up_to s) none)
