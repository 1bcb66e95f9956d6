-- The record that comes next is the one to be stored.
use Rattle.std.proofs.Common.{◌≡◌, ◌+◌, arith, add-one}
use Rattle.directory.specs.Directory.{directory_of}
use Rattle.directory.specs.Private.{zeros, record_before}
use Rattle.directory.proofs.fill.Goals as goal

pub loop-i-preserved : goal.loop-i-preserved
loop-i-preserved c =
    let last : c.record_after-r.result ≡ record_before zeros (directory_of c.args.section.now) (c.loop-i.i + 1)
    = c.requires.next c.loop-i.i c.loop-i-test.true c.record_after-r.result (rw c.loop-i.invariant.last at c.record_after-r.ensures) in
    record {
      below = omega arith;
      stored = rw (last, c.loop-i.invariant.stored, add-one);
      last = last;
    }
