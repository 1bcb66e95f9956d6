-- The padding, or a refusal.
use mathlib.Core.Path.{◌≡◌, ap, ◌∙◌}
use native.Mathlib.Omega.{arith}
use lib.ListN.{drop}
use Rattle.framing.specs.Framing.{all_zero}
use Rattle.framing.proofs.Entries.{rest_there, ends_beyond, ends_padding, ends_few, ends_zero, ends_long, none_long}
use Rattle.framing.proofs.framing_at.Goals.{After-all_zero}
use Rattle.framing.proofs.framing_at.Goals as goal

-- The test for zeros is of all bytes from the place on
tested : (c : After-all_zero) → c.all_zero.result ≡ all_zero (drop c.args.at c.args.s.now)
tested c = c.all_zero.ensures ∙ ap all_zero (rest_there c.args.s.now _ c.args.at c.in-Some.ensures.lookup.0.2)

pub returns-in_default : goal.returns-in_default
returns-in_default c = ends_beyond c.args.s.now c.args.at (omega (arith, c.in_default.ensures.lookup.0))

pub returns-then-all_zero : goal.returns-then-all_zero
returns-then-all_zero c = ends_padding c.args.s.now c.args.at c.in-Some.ensures.lookup.0.0 _ (tested (goal.at.returns-then-all_zero c).After-all_zero) c.if-all_zero.true

pub returns-then-rest-lt4 : goal.returns-then-rest-lt4
returns-then-rest-lt4 c =
    let inside = c.in-Some.ensures.lookup.0 in
    rw c.at.ensures (ends_few c.args.s.now c.args.at inside.0 _ (tested (goal.at.returns-then-rest-lt4 c).After-all_zero) c.if-all_zero.false (omega (arith, inside.3)))

pub returns-then-number_at-eq0 : goal.returns-then-number_at-eq0
returns-then-number_at-eq0 c =
    let inside = c.in-Some.ensures.lookup.0 in
    let zeros = tested (goal.at.returns-then-number_at-eq0 c).After-all_zero in
    rw c.at-then-number_at-eq0.ensures (ends_zero c.args.s.now c.args.at inside.0 _ zeros c.if-all_zero.false _ c.number_at.ensures (omega (arith, inside.3)) c.if-number_at-eq0.true)

pub returns : goal.returns
returns c =
    let s = c.args.s.now in
    let at = c.args.at in
    let inside = c.in-Some.ensures.lookup.0 in
    let n = c.number_at.ensures in
    let long = none_long s at c.requires (omega (arith, n)) in
    rw c.at-2.ensures (ends_long s at inside.0 _ (tested (goal.at.returns c).After-all_zero) c.if-all_zero.false _ n (omega (arith, inside.3)) (omega arith) (omega (arith, n, long)))
