-- The byte, or no byte left.
use Prim.Native.Nat.{◌+◌}
use lib.ListN.{length}
use borrow.Author.Tests.{lt-leb, le-leb}
use Rattle.layout.specs.Reading.{byte_at}
use Rattle.leaf.specs.Reader.{state_of}
use Rattle.leaf.specs.Private.{put_number}
use Rattle.leaf.proofs.Leaves.{read_on, not_on}
use Rattle.leaf.proofs.Reader.byte.Goals as goal

pub returns-then-left-clause-state : goal.returns-then-left-clause-state
returns-then-left-clause-state c =
    let h = c.if-left.ensures in
    let q = c.left.new.self in
    rw h.same (read_on h (state_of c.store.new.self) (put_number c.args.sort (byte_at q.s.now q.at) (state_of q)) (rw (le-leb (q.at + 1) (length q.s.now) h.enough, ← c.wide-b.ensures.0) c.store.ensures.state))

pub returns-else-left-clause-state : goal.returns-else-left-clause-state
returns-else-left-clause-state c =
    let p = c.args.self.now in
    not_on c.if-left.ensures _ (λ k. rw (lt-leb (p.at + 1) (length p.s.now) k))
