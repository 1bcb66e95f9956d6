-- The answer is that of the test, and of what is kept.
use Rattle.std.proofs.Common.{sym, ap, ◌∙◌}
use Rattle.text.specs.Kept.{text_kept}
use Rattle.text.proofs.Kept.{told_both, no_answer, kept_answer}
use Rattle.text.proofs.check_text.Goals as goal

pub returns-then-not-is_utf8 : goal.returns-then-not-is_utf8
returns-then-not-is_utf8 c =
    let s = c.args.s.now in
    let told = told_both s _ (sym (no_answer s (sym c.is_utf8.ensures.value ∙ c.if-not-is_utf8.true))) in
    record { result_value = told.0; exact_check = told.1 }

pub returns : goal.returns
returns c =
    let s = c.args.s.now in
    let told = told_both s _ (ap text_kept c.kept_len.ensures ∙ sym (kept_answer s (sym c.is_utf8.ensures.value ∙ c.if-not-is_utf8.false))) in
    record { result_value = told.0; exact_check = told.1 }
