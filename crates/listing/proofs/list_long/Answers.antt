-- One word and the end of the line.
use Rattle.std.proofs.Common.{ap, arith, length}
use Rattle.listing.specs.Listing.{long_line}
use Rattle.listing.proofs.Lines.{long_made}
use Rattle.listing.proofs.Places.{put_first}
use Rattle.listing.proofs.list_long.Goals as goal

pub returns : goal.returns
returns c =
    let e = put_first long_line _ _ _ _ long_made c.put.ensures in
    record { value = e.size; out_after = e.holds; upper_bound = omega (arith, e.size, ap length long_made) }
