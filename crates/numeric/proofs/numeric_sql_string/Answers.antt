-- No precision, no scale, or both: each text is added to those before it.
use Rattle.std.proofs.Common.{◌^◌, ◌<◌, ◌∙◌, ◌++◌, arith}
use Rattle.std.proofs.lemmas.List.{length-take}
use Rattle.decimal.specs.Ascii.{ascii}
use Rattle.decimal.specs.Decimal.{decimal}
use Rattle.fixed_text.proofs.Extended.{added_after}
use Rattle.numeric.specs.Numeric.{numeric_size}
use Rattle.numeric.proofs.Numeric.{precision_fits, both_fit}
use Rattle.numeric.proofs.numeric_sql_string.Goals as goal
use Rattle.numeric.proofs.numeric_sql_string.Goals.{in-Some-scale, in_default-scale}

pub returns : goal.returns
returns c =
    let p = c.in-Some.precision in
    let fits : p < 2 ^ 32 = omega arith in
    let a = c.extend_from_slice.ensures ∙ rw c.new-text.ensures in
    let b = added_after numeric_size (ascii "NUMERIC") (ascii "(") a c.extend_from_slice-2.ensures in
    let d = added_after numeric_size (ascii "NUMERIC(") (decimal p) b (rw c.from.ensures at c.push_decimal.ensures) in
    record {
      value = elim c.match-scale.branch [
        | in-Some-scale w ↦
            let q = w.in-Some-scale.scale in
            let e = added_after numeric_size (ascii "NUMERIC(" ++ decimal p) (ascii ", ") d w.extend_from_slice-in-Some-scale.ensures in
            let f = added_after numeric_size (ascii "NUMERIC(" ++ decimal p ++ ascii ", ") (decimal q) e (rw w.from-in-Some-scale.ensures at w.push_decimal-in-Some-scale.ensures) in
            added_after numeric_size (ascii "NUMERIC(" ++ decimal p ++ ascii ", " ++ decimal q) (ascii ")") f (rw w.text-is at c.extend_from_slice-3.ensures)
            ∙ both_fit p q fits (omega arith)
            ∙ rw (c.in-Some.is, w.in-Some-scale.is)
        | in_default-scale w ↦
            added_after numeric_size (ascii "NUMERIC(" ++ decimal p) (ascii ")") d (rw w.text-is at c.extend_from_slice-3.ensures)
            ∙ precision_fits p fits
            ∙ rw (c.in-Some.is, w.in_default-scale.is)
      ];
      len_le_numeric_size = rw c.extend_from_slice-3.ensures (simp length-take (omega arith));
    }
