-- A refusal, or the second pass stores the bytes.
use mathlib.Core.Path.{refl}
use Rattle.std.proofs.lemmas.Result.{err_from_is_err_and}
use Rattle.section_writer.proofs.Passes.{refused_whole, second_pass}
use Rattle.section_writer.proofs.encode_entities.Goals as goal

pub returns-in_err-length : goal.returns-in_err-length
returns-in_err-length c =
    let a = c.args in
    let e = err_from_is_err_and c.from_residual.result c.from_residual.ensures.1 in
    let told = refused_whole a.rows.now a.text.now a.dest.now _ _ c.entities_len.ensures.result_value c.in_err-length.ensures _ _ refl in
    rw (e.1, e.2) (record { result_value = told.0; dest_after = told.1.0; exact_writing = told.1.1 })

pub returns : goal.returns
returns c =
    let a = c.args in
    let told = second_pass a.rows.now a.text.now a.dest.now _ _ c.entities_len.ensures.result_value c.in_ok-length.ensures _ refl _ c.store_entries.ensures in
    record { result_value = told.0; dest_after = told.1.0; exact_writing = told.1.1 }
