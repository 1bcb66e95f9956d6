-- UTF-8 or not.
use Rattle.std.proofs.Common.{refl, sym, ◌∙◌}
use Rattle.std.proofs.lemmas.Bool.{false≢true}
use Rattle.parts.proofs.RowText.{is_text_lem, not_text}
use Rattle.parts.proofs.place_row_text.Goals as goal

pub returns-then-is_utf8 : goal.returns-then-is_utf8
returns-then-is_utf8 c =
    let t = c.if-is_utf8.ensures.variant.0 refl in
    sym (is_text_lem c.args.section.now c.args.row _ _ c.in_ok-part.ensures (rw c.of.ensures at t))

pub returns : goal.returns
returns c =
    c.no_part.ensures
    ∙ sym (not_text c.args.section.now c.args.row _ _ c.in_ok-part.ensures (λ t. false≢true (c.if-is_utf8.ensures.variant.1 (rw c.of.ensures t))))
