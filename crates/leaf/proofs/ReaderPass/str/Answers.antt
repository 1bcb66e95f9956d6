-- No length left, too long, not UTF-8, or the text.
use Prim.Native.Nat.{◌+◌, ◌-◌}
use native.Mathlib.Omega.{arith}
use mathlib.Core.Path.{sym, ◌∙◌}
use lib.ListN.{length}
use borrow.Author.Tests.{lt-leb}
use Rattle.raw_bytes.proofs.Number.{number_there}
use Rattle.layout.specs.Machine.{drive}
use Rattle.reading.specs.State.{read_text}
use Rattle.leaf.specs.Reader.{state_of}
use Rattle.leaf.proofs.Leaves.{read_on, not_on, text_long, text_wrong, text_right}
use Rattle.leaf.proofs.ReaderPass.str.Goals as goal

pub returns-then-not-left : goal.returns-then-not-left
unfolding drive read_text
returns-then-not-left c =
    let p = c.args.self.now in
    let h = c.if-not-left.ensures in
    record { lent = h.lent; state = not_on h _ (λ k. rw (lt-leb (p.at + 4) (length p.s.now) k)) }

pub returns-then-self-start : goal.returns-then-self-start
unfolding drive read_text
returns-then-self-start c =
    let h = c.if-not-left.ensures in
    let q = c.left.new.self in
    let n = c.number_at-len.result in
    let e = c.number_at-len.ensures ∙ number_there q.s.now q.at h.enough in
    rw h.same (record {
      lent = c.stop.ensures.lent;
      state = read_on h _ _ (c.stop.ensures.state ∙ sym (text_long q.s.now (state_of q) n e h.enough (omega arith)));
    })

pub returns-then-is_utf8 : goal.returns-then-is_utf8
unfolding drive read_text
returns-then-is_utf8 c =
    let h = c.if-not-left.ensures in
    let q = c.left.new.self in
    let n = c.number_at-len.result in
    let e = c.number_at-len.ensures ∙ number_there q.s.now q.at h.enough in
    rw h.same (record {
      lent = c.store.ensures.lent;
      state = read_on h _ _ (c.store.ensures.state ∙ sym (text_right q.s.now (state_of q) n e h.enough (omega arith) (q.at + 4 + n - (q.at + 4)) (omega arith) (sym c.is_utf8.ensures.value ∙ c.if-is_utf8.true)));
    })

pub returns : goal.returns
unfolding drive read_text
returns c =
    let h = c.if-not-left.ensures in
    let q = c.left.new.self in
    let n = c.number_at-len.result in
    let e = c.number_at-len.ensures ∙ number_there q.s.now q.at h.enough in
    rw h.same (record {
      lent = c.stop-2.ensures.lent;
      state = read_on h _ _ (c.stop-2.ensures.state ∙ sym (text_wrong q.s.now (state_of q) n e h.enough (omega arith) (q.at + 4 + n - (q.at + 4)) (omega arith) (sym c.is_utf8.ensures.value ∙ c.if-is_utf8.false)));
    })
