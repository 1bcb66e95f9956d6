-- The number, or too few bytes left.
use Prim.Native.Nat.{◌+◌}
use mathlib.Core.Path.{◌∙◌}
use lib.ListN.{length}
use borrow.Author.Tests.{lt-leb, le-leb}
use Rattle.raw_bytes.proofs.Number.{number_there}
use Rattle.layout.specs.Reading.{four_at}
use Rattle.leaf.specs.Reader.{state_of}
use Rattle.leaf.specs.Private.{put_number}
use Rattle.leaf.proofs.Leaves.{read_on, not_on}
use Rattle.leaf.proofs.Reader.four.Goals as goal

pub returns-then-left-clause-state : goal.returns-then-left-clause-state
returns-then-left-clause-state c =
    let h = c.if-left.ensures in
    let q = c.left.new.self in
    let n = c.number_at-n.ensures ∙ number_there q.s.now q.at h.enough in
    rw h.same (read_on h (state_of c.store.new.self) (put_number c.args.sort (four_at q.s.now q.at) (state_of q)) (rw (le-leb (q.at + 4) (length q.s.now) h.enough, ← n) c.store.ensures.state))

pub returns-else-left-clause-state : goal.returns-else-left-clause-state
returns-else-left-clause-state c =
    let p = c.args.self.now in
    not_on c.if-left.ensures _ (λ k. rw (lt-leb (p.at + 4) (length p.s.now) k))
