-- Neither 0 nor 1, the flag, or no byte left.
use Prim.Native.Nat.{◌+◌}
use native.Mathlib.Omega.{arith}
use lib.ListN.{length, get_or}
use borrow.Author.Tests.{lt-leb, le-leb, lt-ltb, le-ltb}
use Rattle.layout.specs.Machine.{drive}
use Rattle.reading.specs.State.{read_plain}
use Rattle.leaf.proofs.Leaves.{read_on, not_on}
use Rattle.leaf.proofs.ReaderPass.bool.Goals as goal
use Rattle.leaf.proofs.ReaderPass.bool.Goals.{then-left+then-b-ge2, then-left+else-b-ge2, else-left}

pub returns-clause-runs : goal.returns-clause-runs
unfolding drive read_plain
returns-clause-runs c =
    let q = c.left.new.self in
    let p = c.args.self.now in
    elim c.if-left.branch [
      | then-left+then-b-ge2 w ↦
          let h = w.if-left.ensures in
          rw (w.self-is, h.same) (record {
            lent = w.stop.ensures.lent;
            state = read_on h _ _ (rw (le-leb (q.at + 1) (length q.s.now) h.enough, le-ltb (get_or q.s.now q.at 0) 2 (omega (arith, w.wide-b.ensures.0))) w.stop.ensures.state);
          })
      | then-left+else-b-ge2 w ↦
          let h = w.if-left.ensures in
          rw (w.self-is, h.same) (record {
            lent = w.store.ensures.lent;
            state = read_on h _ _ (rw (le-leb (q.at + 1) (length q.s.now) h.enough, ← w.wide-b.ensures.0, lt-ltb w.wide-b.result 2 (omega arith)) w.store.ensures.state);
          })
      | else-left w ↦
          let h = w.if-left.ensures in
          rw w.self-is (record { lent = h.lent; state = not_on h _ (λ k. rw (lt-leb (p.at + 1) (length p.s.now) k)) })
    ]
