-- A refusal, or the second pass stores the bytes.
use mathlib.Core.Path.{refl}
use Rattle.std.proofs.lemmas.Result.{err_from_is_err_and}
use Rattle.writing.proofs.Passes.{refused_whole}
use Rattle.storing.proofs.Passes.{second_pass}
use Rattle.writer.proofs.encoded.Goals as goal

pub returns-in_err-length : goal.returns-in_err-length
returns-in_err-length g c L f =
    let a = c.args in
    let e = err_from_is_err_and c.from_residual.result c.from_residual.ensures.1 in
    rw (e.1, e.2) (refused_whole L a.rows.now a.text.now a.dest.now _ _ (c.measured.ensures L f).0 c.in_err-length.ensures _ _ refl)

pub returns : goal.returns
returns g c L f =
    let a = c.args in
    second_pass L a.rows.now a.text.now a.dest.now _ _ (c.measured.ensures L f).0 c.in_ok-length.ensures _ refl _ c.store.ensures
