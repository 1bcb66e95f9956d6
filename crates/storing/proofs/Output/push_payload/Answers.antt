-- The rows of the entity before index i are stored; the others are still to come.
use Prim.Native.Nat.{◌+◌, ◌-◌}
use native.Mathlib.Omega.{arith}
use mathlib.Core.Bool.{true, false}
use mathlib.Core.Path.{◌≡◌, refl, sym, ◌∙◌}
use borrow.Author.Tests.{eq-eqb, ne_eqb}
use Rattle.layout.specs.Answers.{whole_rows}
use Rattle.table.proofs.Rows.{sort_there}
use Rattle.storing.specs.Private.{row_bytes, is_kind}
use Rattle.storing.specs.Output.{spot_of}
use Rattle.storing.proofs.Rows.{bytes_between, rows_step, next_above, next_here, next_later, next_none, payload_ends}
use Rattle.storing.proofs.Output.push_payload.Goals as goal

pub loop-i-init : goal.loop-i-init
loop-i-init c =
    let a = c.args in
    let out = a.self.now in
    let within = bytes_between (row_bytes a.rows.now a.text.now a.first) out.at out.dest.now c.requires.1 _ _ c.push_row.ensures.stored in
    (refl, omega arith, within.1, refl, refl)

pub returns-then-row_at-eq-SORT_KIND : goal.returns-then-row_at-eq-SORT_KIND
returns-then-row_at-eq-SORT_KIND c =
    let a = c.args in
    let x = c.loop-i in
    let out = a.self.now in
    let first = c.push_row in
    let kind : is_kind a.rows.now x.i ≡ true = eq-eqb _ _ (sym (sort_there a.rows.now x.i c.loop-i-test.true c.row_at.ensures) ∙ c.if-row_at-eq-SORT_KIND.true) in
    let here = next_here a.rows.now (whole_rows a.rows.now - x.i) x.i kind in
    let told = payload_ends a.rows.now a.text.now a.first out.at out.dest.now c.requires.1 _ first.ensures.stored x.i (spot_of x.self) x.invariant.1 (x.invariant.3 ∙ here) x.invariant.4 in
    record { lent = x.invariant.0 ∙ first.ensures.lent; end = told.0; within = (told.1.0, x.invariant.2); stored = told.1.1 }

pub loop-i-preserved : goal.loop-i-preserved
loop-i-preserved c =
    let a = c.args in
    let x = c.loop-i in
    let test = c.loop-i-test in
    let next = c.push_row-in-loop-i in
    let rows = a.rows.now in
    let other : is_kind rows x.i ≡ false = ne_eqb _ _ (λ z. c.if-row_at-eq-SORT_KIND.false (sort_there rows x.i test.true c.row_at.ensures ∙ z)) in
    let later = x.invariant.3 ∙ next_later rows (whole_rows rows) x.i test.true other in
    let within = bytes_between (row_bytes rows a.text.now x.i) x.self.at x.self.dest.now x.invariant.2 _ _ next.ensures.stored in (
      next.ensures.lent ∙ x.invariant.0,
      omega (arith, within.0, x.invariant.1),
      within.1,
      later,
      x.invariant.4 ∙ rows_step rows a.text.now _ x.i (spot_of x.self) (omega (arith, later, next_above rows (whole_rows rows - (x.i + 1)) (x.i + 1))) _ next.ensures.stored,
    )

pub returns : goal.returns
returns c =
    let a = c.args in
    let x = c.loop-i in
    let out = a.self.now in
    let first = c.push_row in
    let none = next_none a.rows.now (whole_rows a.rows.now) x.i c.loop-i-test.false in
    let told = payload_ends a.rows.now a.text.now a.first out.at out.dest.now c.requires.1 _ first.ensures.stored x.i (spot_of x.self) x.invariant.1 (x.invariant.3 ∙ none) x.invariant.4 in
    record { lent = x.invariant.0 ∙ first.ensures.lent; end = omega (arith, told.0); within = (told.1.0, x.invariant.2); stored = told.1.1 }
