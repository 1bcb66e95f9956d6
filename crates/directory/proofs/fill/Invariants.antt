-- The first i records are stored, and r is the last of them.
use Rattle.std.proofs.Common.{◌≡◌, ◌≤◌}
use Rattle.directory.specs.Directory.{directory_of}
use Rattle.directory.specs.Private.{zeros, record_before, records_put}
use Rattle.directory.proofs.fill.Given as goal

abbrev pub invariant-loop-i : goal.invariant-loop-i
invariant-loop-i l = record {
  below : l.i ≤ l.n;
  stored : l.records ≡ records_put (directory_of l.section) l.i l.fn.records;
  last : l.r ≡ record_before zeros (directory_of l.section) l.i;
}
