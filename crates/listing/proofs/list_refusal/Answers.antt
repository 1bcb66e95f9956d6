-- One line of three words.
use Rattle.std.proofs.Common.{◌∙◌, arith}
use Rattle.std.proofs.lemmas.List.{take_all}
use Rattle.decimal.specs.Ascii.{ascii}
use Rattle.listing.specs.Listing.{refusal_line}
use Rattle.listing.specs.Private.{most_line}
use Rattle.listing.proofs.Lines.{word_fits}
use Rattle.listing.proofs.Places.{put_first}
use Rattle.listing.proofs.list_refusal.Goals as goal

pub returns : goal.returns
returns c =
    let r = c.args.refusal in
    let l = refusal_line r.number r.place in
    let f = word_fits (ascii "refuse") r.number r.place (omega arith) (omega arith) (omega arith) in
    let e = put_first l _ _ _ _ (c.as_slice.ensures.text ∙ c.line-line.ensures ∙ rw c.from-number.ensures (take_all most_line l f)) c.put.ensures in
    record { value = e.size; out_after = e.holds; upper_bound = omega (arith, e.size, f) }
