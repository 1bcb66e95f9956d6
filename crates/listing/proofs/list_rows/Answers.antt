-- The line of the counts, then the rows' lines one after the other.
use Rattle.std.proofs.Common.{◌∙◌, ◌≡◌, ℕ, List, [], ◌∷◌, ap, arith, length}
use Rattle.std.proofs.lemmas.List.{take_all}
use Rattle.decimal.specs.Ascii.{ascii}
use Rattle.decimal.specs.Decimal.{decimal}
use Rattle.listing.specs.Listing.{line}
use Rattle.listing.specs.Private.{most_line}
use Rattle.listing.proofs.Lines.{accept_line, accepted_made, next_row, no_row, row_fits, word_fits}
use Rattle.listing.proofs.Places.{put_first, put_next}
use Rattle.listing.proofs.list_rows.Goals as goal

pub loop-index-init : goal.loop-index-init
loop-index-init c =
    let a = c.args in
    let l = accept_line a.counts in
    let f = word_fits (ascii "accept") a.counts.entities a.counts.rows (omega arith) (omega arith) (omega arith) in
    let e = put_first l _ _ _ _ (c.as_slice.ensures.text ∙ c.line-first.ensures ∙ take_all most_line l f) c.put-end.ensures in
    (rw (← no_row l a.table.now) e, omega (arith, e.size, f))

pub put-end-requires-in-loop-index : goal.put-end-requires-in-loop-index
put-end-requires-in-loop-index c = omega (arith, c.requires, c.loop-index.invariant.1, c.as_slice-in-loop-index-2.ensures.within)

pub loop-index-preserved : goal.loop-index-preserved
loop-index-preserved c =
    let a = c.args in
    let r = c.row_at-row.result in
    let l : List ℕ = line (decimal r.sort ∷ decimal r.offset ∷ decimal r.value ∷ []) in
    let f = row_fits r (omega arith) (omega arith) (omega arith) in
    let t : c.as_slice-in-loop-index-2.result.now ≡ l =
    c.as_slice-in-loop-index-2.ensures.text ∙ c.line-line.ensures ∙ rw (c.as_slice-in-loop-index.ensures.text, c.decimal-sort.ensures, c.from.ensures, c.from-in-loop-index.ensures, c.from-in-loop-index-2.ensures) (take_all most_line l (omega (arith, f))) in
    let e = put_next l _ _ _ t c.loop-index.invariant.0 c.put-end-in-loop-index.ensures in (
      rw (← next_row (accept_line a.counts) a.table.now c.loop-index.index r c.row_at-row.ensures (omega arith)) e,
      omega (arith, c.put-end-in-loop-index.ensures.0, ap length t, f),
    )

pub returns : goal.returns
returns c =
    let a = c.args in
    let q : c.loop-index.index ≡ a.counts.rows = omega arith in
    let e = rw (q, accepted_made a.counts a.table.now) at c.loop-index.invariant.0 in
    record { value = e.size; out_after = e.holds; upper_bound = omega arith }
