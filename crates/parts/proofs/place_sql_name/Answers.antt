-- UTF-8 or not, and if so the end of the text.
use Rattle.std.proofs.Common.{sym, ap, ◌∙◌}
use Rattle.parts.specs.Parts.{row_text, sql_name_in}
use Rattle.parts.proofs.RowText.{is_text_lem, not_text}
use Rattle.parts.proofs.SqlName.{name_placed}
use Rattle.parts.proofs.place_sql_name.Goals as goal

pub returns-in_default : goal.returns-in_default
returns-in_default c =
    let s = c.args.section.now in
    let n = rw c.of.ensures at c.in_default.ensures.exact_start in
    c.no_part.ensures ∙ sym (ap (sql_name_in s) (not_text s c.args.row _ _ c.in_ok-part.ensures n))

pub returns : goal.returns
returns c =
    let s = c.args.section.now in
    let u = c.in_ok-part.ensures in
    let n = rw c.of.ensures at c.in-Some.ensures.exact_start in
    name_placed s _ _ _ (row_text s c.args.row) (is_text_lem s c.args.row _ _ u n.0) u.1 n.1 n.2
