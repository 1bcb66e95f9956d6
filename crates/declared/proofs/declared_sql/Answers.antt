-- Refused, an error, As, Numeric, or another mapping.
use native.Mathlib.Omega.{arith}
use mathlib.Core.Path.{refl}
use Rattle.std.proofs.lemmas.Bool.{iff_false}
use Rattle.layout.specs.Layout.{other_mapping, error_result}
use Rattle.pass.proofs.Passes.{result_refused, result_in, result_wrong}
use Rattle.declared.proofs.Result.{error_in, as_in, numeric_in, other_in}
use Rattle.declared.proofs.declared_sql.Goals as goal

pub returns-then-is_refused : goal.returns-then-is_refused
returns-then-is_refused g c = result_refused c.argument_sql.ensures g.met.P.Pass.stays (c.is_refused.ensures.0 c.if-is_refused.true)

pub returns-then-seen-ne-RESULT_OK : goal.returns-then-seen-ne-RESULT_OK
returns-then-seen-ne-RESULT_OK g c =
    let M = g.P.Pass.meaning in
    result_wrong c.argument_sql.ensures g.met.P.Pass.judges (iff_false c.is_refused.ensures c.if-is_refused.false) error_result c.place-begin.ensures c.seen.ensures refl
    (error_in c.seen.result (M.seen (M.lent c.argument_sql.new.p) c.place-begin.result 1) c.if-seen-ne-RESULT_OK.true) refl c.refuse.ensures

pub returns-in-1 : goal.returns-in-1
returns-in-1 g c =
    result_in c.argument_sql.ensures g.met.P.Pass.judges (iff_false c.is_refused.ensures c.if-is_refused.false) c.place-begin.ensures c.seen.ensures c.seen-2.ensures
    (as_in c.seen.result c.seen-2.result c.if-seen-ne-RESULT_OK.false c.in-1.is)

pub returns-in-3 : goal.returns-in-3
returns-in-3 g c =
    result_in c.argument_sql.ensures g.met.P.Pass.judges (iff_false c.is_refused.ensures c.if-is_refused.false) c.place-begin.ensures c.seen.ensures c.seen-2.ensures
    (numeric_in c.seen.result c.seen-2.result c.if-seen-ne-RESULT_OK.false c.in-3.is)

pub returns-in_default : goal.returns-in_default
returns-in_default g c =
    result_wrong c.argument_sql.ensures g.met.P.Pass.judges (iff_false c.is_refused.ensures c.if-is_refused.false) other_mapping c.place-begin.ensures c.seen.ensures c.seen-2.ensures
    (other_in c.seen.result c.seen-2.result c.if-seen-ne-RESULT_OK.false (omega arith) (omega arith)) refl c.refuse-in_default.ensures
