-- The total is the length without the items that are left.
use native.Mathlib.Omega.{arith}
use mathlib.Core.Path.{refl, sym, ap, ◌∙◌}
use borrow.Author.Rules.{rules}
use Rattle.std.proofs.lemmas.Result.{err_from_is_err_and}
use Rattle.length.specs.Length.{within_limit, list_length}
use Rattle.length.proofs.Sums.{within_limit_lem, counted_within, still_above, sum_next, sum_end}
use Rattle.length.proofs.list_len.Goals as goal

pub loop-item-init : goal.loop-item-init
unfolding list_length
loop-item-init c = (search rules, refl)

pub returns-in_err-total : goal.returns-in_err-total
returns-in_err-total c =
    let e = err_from_is_err_and c.from_residual.result c.from_residual.ensures.1 in
    let loop = c.loop-item in
    rw (e.1, e.2) (still_above _ _ _ _ c.in_err-total.ensures (omega (arith, loop.invariant.1, sum_next c.args.items.now loop.item-index c.loop-item-test.true)))

pub loop-item-preserved : goal.loop-item-preserved
loop-item-preserved c =
    let told = counted_within _ _ c.in_ok-total.ensures in
    (omega (arith, told.0, told.1), omega (arith, told.0, c.loop-item.invariant.1, sum_next c.args.items.now c.loop-item.item-index c.loop-item-test.true))

pub returns : goal.returns
returns c =
    let loop = c.loop-item in
    sym (within_limit_lem _ loop.invariant.0) ∙ ap within_limit (omega (arith, loop.invariant.1, sum_end c.args.items.now loop.item-index c.loop-item-test.false))
