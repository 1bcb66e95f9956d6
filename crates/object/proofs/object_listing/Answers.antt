-- Too long, refused, or the listing of the part.
use Rattle.std.proofs.Common.{arith}
use Rattle.object.proofs.Object.{refusal_listed, part_listed, list_too_long}
use Rattle.object.proofs.object_listing.Goals as goal

pub returns-then-file-gt-MOST_OBJECT : goal.returns-then-file-gt-MOST_OBJECT
returns-then-file-gt-MOST_OBJECT c = rw (← list_too_long c.args.file.now c.args.name.now (omega arith)) c.list_long.ensures

pub returns-in-Err : goal.returns-in-Err
returns-in-Err c = rw (← refusal_listed c.args.file.now c.args.name.now _ _ c.in-Err.ensures.result_value (omega arith)) c.list_refusal.ensures

pub returns-in-Ok : goal.returns-in-Ok
returns-in-Ok c = rw (← part_listed c.args.file.now c.args.name.now _ _ c.in-Ok.ensures.result_value _ c.of.ensures (omega arith)) c.listing.ensures
