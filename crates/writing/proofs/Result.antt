-- The result of a declaration: the verdict on its leaves from the values of its first two rows.
use Prim.Native.Nat.{ℕ, ◌+◌, ◌<◌}
use native.Mathlib.Nat.{add-zero}
use native.Mathlib.Omega.{arith}
use mathlib.Core.Bool.{Bool, true, false, cond}
use mathlib.Core.List.{List}
use mathlib.Core.Path.{◌≡◌, refl, sym, ap, ◌∙◌}
use lib.Dec.{eqb}
use borrow.Author.Tests.{eqb-true, eqb-false}
use Rattle.layout.specs.Layout.{Verdict, Layout, Value, leaves}
use Rattle.layout.specs.Written.{value_at}
use Rattle.layout.specs.Forms.{follows}
use Rattle.layout.specs.Entities.{SqlMapping, ArgumentSql, argument_results, value_in, as_or_numeric, result_verdict}
use Rattle.layout.specs.Reading.{leaves_at}
use Rattle.layout.specs.Machine.{verdict_on}
use Rattle.layout.specs.Answers.{whole_rows}
use Rattle.table.specs.Table.{row_of}
use Rattle.table.proofs.Rows.{value_there}
use Rattle.writing.specs.State.{WriteState}
use Rattle.writing.specs.Rows.{in_rows}
use Rattle.writing.specs.Run.{consume}
use Rattle.writing.proofs.Measured.{taken}
use Rattle.writing.proofs.Spelled.{Given}
use Rattle.writing.proofs.Still.{Refused}

-- The row at which a mapping begins
mapping_row : (rows text : List ℕ) (i : ℕ) (b : Bool) (other : Layout) (v : Value (cond b SqlMapping other)) → Given rows text i (leaves (cond b SqlMapping other) v)
    → b ≡ true → (i < whole_rows rows) × (value_in (leaves (cond b SqlMapping other) v) 0 ≡ value_at rows i)
unfolding SqlMapping
mapping_row rows text i true other v g e = (g.0.0, sym g.0.1.1)
mapping_row rows text i false other v g e = let z : ◌≡◌ {A = ℕ} 0 1 = ap (λ (b : Bool). cond b 1 0) e in absurd (omega arith)

-- For a result that was taken
module _ (rows text : List ℕ) (w : WriteState) (z : (consume ArgumentSql rows text w).refusal ≡ 0) where
  abbrev at : ℕ
  at = w.row

  abbrev verdict : Verdict
  verdict = verdict_on result_verdict (leaves_at (in_rows rows text) ArgumentSql at)

  -- The two rows: the value of the first is that of the result, and after Ok the value of the second that of the mapping
  record TwoRows : Type 0 where
    result : ℕ
    mapping : ℕ
    there : at < whole_rows rows
    value : value_at rows at ≡ result
    judged : verdict ≡ as_or_numeric result mapping
    next : eqb result 1 ≡ true → (at + 1 < whole_rows rows) × (mapping ≡ value_at rows (at + 1))

  two_rows : TwoRows
  unfolding ArgumentSql
  two_rows =
      let (v, q, g) = taken rows text ArgumentSql w z in
      record {
        result = v.0;
        mapping = value_in (leaves (follows argument_results v.0) v.2) 0;
        there = g.0.0;
        value = g.0.1.1;
        judged = rw q;
        next = mapping_row rows text (at + 1) (eqb v.0 1) _ v.2 g.1;
      }

  first : (row_of rows at).value ≡ two_rows.result
  first = value_there rows at two_rows.there refl ∙ two_rows.value

  verdict_is : verdict ≡ as_or_numeric (row_of rows at).value (row_of rows (at + 1)).value
  verdict_is = two_rows.judged ∙ rw first (go (eqb two_rows.result 1) refl)
    where
      go : (b : Bool) → eqb two_rows.result 1 ≡ b → as_or_numeric two_rows.result two_rows.mapping ≡ as_or_numeric two_rows.result (row_of rows (at + 1)).value
      go true e = let (there, m) = two_rows.next e in rw (m, value_there rows (at + 1) there refl)
      go false e = rw e

-- The verdict on a result that was not refused
pub writer_judges : (rows text : List ℕ) (w : WriteState) → (Refused (consume ArgumentSql rows text w) → ⊥)
    → verdict_on result_verdict (leaves_at (in_rows rows text) ArgumentSql w.row) ≡ as_or_numeric (row_of rows (w.row + 0)).value (row_of rows (w.row + 1)).value
writer_judges rows text w h = rw add-zero (go (eqb (consume ArgumentSql rows text w).refusal 0) refl)
  where
    go : (b : Bool) → eqb (consume ArgumentSql rows text w).refusal 0 ≡ b
        → verdict_on result_verdict (leaves_at (in_rows rows text) ArgumentSql w.row) ≡ as_or_numeric (row_of rows w.row).value (row_of rows (w.row + 1)).value
    go true e = verdict_is rows text w (eqb-true _ _ e)
    go false e = absurd (h (eqb-false _ _ e))
