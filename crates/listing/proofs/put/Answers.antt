-- As many bytes as fit are copied.
use Rattle.std.proofs.Common.{refl}
use Rattle.listing.proofs.Places.{put_stored}
use Rattle.listing.proofs.put.Goals as goal

pub returns : goal.returns
returns c =
    (refl, rw c.copy_from_slice.ensures.after (put_stored c.args.at c.min-start.result c.min-fitting.result c.args.bytes.now c.args.out.now c.min-start.ensures c.min-fitting.ensures))
