-- UTF-8 or not, and if so as much as is kept.
use Rattle.std.proofs.Common.{sym, ap, ◌∙◌}
use Rattle.parts.specs.Parts.{kept_name_in}
use Rattle.parts.proofs.RowText.{is_text_lem, not_text}
use Rattle.parts.proofs.KeptName.{kept_both, kept_placed}
use Rattle.parts.proofs.place_kept_name.Goals as goal

pub returns-in_default : goal.returns-in_default
returns-in_default c =
    let s = c.args.section.now in
    let row = c.args.row in
    let n = rw c.of.ensures at c.in_default.ensures.exact_check in
    let told = kept_both s row _ (c.no_part.ensures ∙ sym (ap (kept_name_in s) (not_text s row _ _ c.in_ok-part.ensures n))) in
    record { result_value = told.0; exact_kept_name = told.1 }

pub returns : goal.returns
returns c =
    let s = c.args.section.now in
    let row = c.args.row in
    let (t, k) = rw c.of.ensures at c.in-Some.ensures.exact_check in
    let told = kept_both s row _ (kept_placed s _ _ _ _ (is_text_lem s row _ _ c.in_ok-part.ensures t) k) in
    record { result_value = told.0; exact_kept_name = told.1 }
