-- Refused otherwise than by 13, or passed.
use native.Mathlib.Omega.{arith}
use mathlib.Core.List.{[]}
use mathlib.Core.Path.{refl}
use Rattle.paths.proofs.Report.{Passes, passed, report_passed, report_stopped}
use Rattle.paths.proofs.Exact.{meets_both}
use Rattle.paths.proofs.path_repeats.Goals as goal
use Rattle.paths.proofs.path_repeats.Goals.{in_default-via-in-Err+else-refusal, in_default-via-in_default}

pub count_pairs-requires : goal.count_pairs-requires
count_pairs-requires c =
    let passes : Passes c.decode_entities.result = elim c.in_default.branch [
      | in_default-via-in-Err+else-refusal w ↦ rw w.in-Err.is w.if-refusal.false
      | in_default-via-in_default w ↦ rw w.in_default.is tt
    ] in
    passed c.args.section.now (λ i h. omega (arith, c.type_inv.section i)) [] _ c.decode_entities.result c.decode_entities.ensures.table_after _ refl passes

pub returns-in-Err : goal.returns-in-Err
returns-in-Err c =
    let told = meets_both c.args.section.now (λ i h. omega (arith, c.type_inv.section i)) _
    (report_stopped c.args.section.now (λ i h. omega (arith, c.type_inv.section i)) [] _ c.decode_entities.result c.decode_entities.ensures.table_after c.in-Err.refusal c.in-Err.is c.if-refusal.true) in
    record { result_value = told.0; exact_report = told.1 }

pub returns-in_default : goal.returns-in_default
returns-in_default c =
    let passes : Passes c.decode_entities.result = elim c.in_default.branch [
      | in_default-via-in-Err+else-refusal w ↦ rw w.in-Err.is w.if-refusal.false
      | in_default-via-in_default w ↦ rw w.in_default.is tt
    ] in
    let told = meets_both c.args.section.now (λ i h. omega (arith, c.type_inv.section i)) _
    (report_passed c.args.section.now (λ i h. omega (arith, c.type_inv.section i)) [] _ c.decode_entities.result c.decode_entities.ensures.table_after _ refl passes c.count_pairs.result c.count_pairs.ensures) in
    record { result_value = told.0; exact_report = told.1 }
