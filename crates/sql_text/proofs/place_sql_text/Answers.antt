-- A Numeric text is stored at the start of the buffer.
use native.Mathlib.Omega.{arith}
use mathlib.Core.Path.{sym, ap, ◌∙◌}
use Rattle.sql_text.specs.SqlText.{filled}
use Rattle.sql_text.specs.Private.{text_found}
use Rattle.sql_text.proofs.SqlText.{pasted_start}
use Rattle.sql_text.proofs.place_sql_text.Goals as goal

pub returns-in-Numeric-clause-buffer_after : goal.returns-in-Numeric-clause-buffer_after
returns-in-Numeric-clause-buffer_after c =
    let buffer = c.args.buffer.now in
    let text = c.as_slice-text in
    let e = text.ensures.text ∙ c.numeric_sql_string-sql.ensures.value in
    let found = c.in_ok-part.ensures in
    let q = ap text_found (sym c.in-Numeric.is) ∙ found.value in
    c.paste.ensures ∙ pasted_start buffer text.result.now (omega (arith, text.ensures.within, found.room)) ∙ rw e (ap (filled buffer) q)
