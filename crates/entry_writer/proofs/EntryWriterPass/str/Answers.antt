-- Refused, no such row, a text beyond the lent bytes, a bad one, or a good one.
use mathlib.Core.Path.{refl, sym, ◌∙◌}
use borrow.Author.Tests.{ne_eqb, eq-eqb, leb-true}
use Rattle.layout.specs.Machine.{drive}
use Rattle.layout.specs.Reading.{utf8}
use Rattle.writing.specs.State.{unless_refused, consume_text}
use Rattle.entry_writer.proofs.Steps.{text_stays, text_lent, text_length, text_size}
use Rattle.entry_writer.proofs.EntryWriterPass.str.Goals as goal

pub returns-then-self-ne0 : goal.returns-then-self-ne0
unfolding drive consume_text unless_refused
returns-then-self-ne0 c = record { lent = refl; state = rw (ne_eqb _ _ c.if-self-ne0.true) }

pub returns-then-not-is_row : goal.returns-then-not-is_row
unfolding drive consume_text unless_refused
returns-then-not-is_row c =
    let z = eq-eqb _ _ c.if-self-ne0.false in
    record { lent = c.stop.ensures.lent; state = rw (z, ← c.is_row.ensures, c.if-not-is_row.true) (rw z at c.stop.ensures.state) }

pub returns-then-not-stays : goal.returns-then-not-stays
unfolding drive consume_text unless_refused
returns-then-not-stays c =
    let p = c.args.self.now in
    let h = c.if-not-is_row.false in
    let s = text_stays p.rows.now p.text.now p.row c.is_row.ensures h c.row_at-row.ensures c.stays.ensures in
    record { lent = c.spoiled.ensures.lent; state = rw (eq-eqb _ _ c.if-self-ne0.false, ← c.is_row.ensures, h, s, c.if-not-stays.true) c.spoiled.ensures.state }

pub returns-then-not-is_utf8 : goal.returns-then-not-is_utf8
unfolding drive consume_text unless_refused utf8
returns-then-not-is_utf8 c =
    let p = c.args.self.now in
    let h = c.if-not-is_row.false in
    let s = text_stays p.rows.now p.text.now p.row c.is_row.ensures h c.row_at-row.ensures c.stays.ensures in
    let b = text_lent p.rows.now p.text.now p.row c.is_row.ensures h c.row_at-row.ensures in
    record {
      lent = c.spoiled-then-not-is_utf8.ensures.lent;
      state = rw (eq-eqb _ _ c.if-self-ne0.false, ← c.is_row.ensures, h, s, c.if-not-stays.false, b, ← c.is_utf8.ensures.value, c.if-not-is_utf8.true) c.spoiled-then-not-is_utf8.ensures.state;
    }

pub returns : goal.returns
unfolding drive consume_text unless_refused utf8
returns c =
    let p = c.args.self.now in
    let h = c.if-not-is_row.false in
    let s = text_stays p.rows.now p.text.now p.row c.is_row.ensures h c.row_at-row.ensures c.stays.ensures in
    let b = text_lent p.rows.now p.text.now p.row c.is_row.ensures h c.row_at-row.ensures in
    let l = text_length p.rows.now p.text.now p.row c.is_row.ensures h c.row_at-row.ensures (leb-true _ _ (sym c.stays.ensures ∙ c.if-not-stays.false)) in
    record {
      lent = c.past.ensures.lent;
      state = rw (eq-eqb _ _ c.if-self-ne0.false, ← c.is_row.ensures, h, s, c.if-not-stays.false, b, ← c.is_utf8.ensures.value, c.if-not-is_utf8.false, text_size, l) c.past.ensures.state;
    }
