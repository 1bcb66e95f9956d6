-- The line is made word by word.
use Rattle.std.proofs.Common.{◌∙◌, ◌++◌, ap, take}
use Rattle.decimal.specs.Ascii.{ascii}
use Rattle.decimal.specs.Decimal.{decimal}
use Rattle.fixed_text.proofs.Extended.{added_after}
use Rattle.listing.specs.Private.{most_line}
use Rattle.listing.proofs.Lines.{line_made}
use Rattle.listing.proofs.line.Goals as goal

pub returns : goal.returns
returns c =
    let w = c.args.word.now in
    let a = decimal c.args.a in
    let b = decimal c.args.b in
    let e = added_after most_line w (ascii " ") (c.extend_from_slice.ensures ∙ rw c.new-line.ensures) c.push.ensures in
    let f = added_after most_line (w ++ ascii " ") a e c.push_decimal.ensures in
    let g = added_after most_line (w ++ ascii " " ++ a) (ascii " ") f c.push-2.ensures in
    let h = added_after most_line (w ++ ascii " " ++ a ++ ascii " ") b g c.push_decimal-2.ensures in
    added_after most_line (w ++ ascii " " ++ a ++ ascii " " ++ b) (ascii "\n") h c.push-3.ensures ∙ ap (take most_line) (line_made w a b)
