-- From entry to entry.
use Rattle.std.proofs.Common.{◌≡◌, ◌-◌, length}
use Rattle.leaf.specs.Reader.{lent_of}
use Rattle.section.specs.Entry.{Stage, staged}
use Rattle.directory.specs.Private.{boundary}
use Rattle.directory.proofs.Looking.{Looks}
use Rattle.directory.proofs.look_at.Given as goal

abbrev pub invariant-loop-after : goal.invariant-loop-after
invariant-loop-after l =
    (lent_of l.reader ≡ lent_of l.fn.reader)
    × ((p : Stage) × (boundary p ≡ l.before) × Looks l.fn.reader.s.now l.position p (staged l.reader l.entities) l.seen)

abbrev pub decreases-loop-after : goal.decreases-loop-after
decreases-loop-after l = length l.fn.reader.s.now - l.before.at
