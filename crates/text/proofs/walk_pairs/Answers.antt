-- Over ASCII the state ascii_stays the same; where a byte is left, or all that is not ASCII, the walk goes on from there.
use Rattle.std.proofs.Common.{◌≡◌, ℕ, ◌+◌, ◌≤◌, List, length, arith, rules}
use lib.Seq.{take-length}
use Rattle.text.specs.declared.ColonWalk.{ColonWalk}
use Rattle.text.specs.Walk.{State}
use Rattle.text.specs.Private.{code, Ascii, StaysClosed, Completes}
use Rattle.text.proofs.Codes.{at_start}
use Rattle.text.proofs.Blocks.{ascii_more, ascii_stays}
use Rattle.text.proofs.Colons.{closed_end, last_byte}
use Rattle.text.proofs.walk_pairs.Goals as goal

-- From where ASCII ends
onward : {s : List ℕ} {a i e : ℕ} {q : State} {r : ColonWalk} → a ≤ i → i ≤ length s → Ascii s a i → StaysClosed s a a i e → code q ≡ 0 → Completes s i e q r → Completes s a a q r
onward {s} {a} {i} {q = q} h l f g z w =
    record {
      states = λ p k. w.states p (ascii_stays s p q a i h l f z k);
      colons = λ o k. w.colons o (g o k);
    }

pub returns-then-at-n : goal.returns-then-at-n
returns-then-at-n c =
    let s = c.args.s.now in
    let passed = c.ascii_pairs-p in
    let record { a_le_at = h; ascii = f; stays_closed = g } = passed.ensures in
    let z = at_start c.args.q (c.if-ne.ensures) in
    let n : passed.result.at ≡ length s = search rules in
    onward h.0 h.1 f g z (record {
      states = λ p k. rw (n, take-length s) at k;
      colons = λ o k. closed_end s o passed.result.at passed.result.end k n;
    })

pub returns-then-s-at-lt128 : goal.returns-then-s-at-lt128
returns-then-s-at-lt128 c =
    let s = c.args.s.now in
    let passed = c.ascii_pairs-p in
    let record { a_le_at = h; ascii = f; stays_closed = g } = passed.ensures in
    let z = at_start c.args.q (c.if-ne.ensures) in
    let at = passed.result.at in
    let n : at + 1 ≡ length s = search rules in
    onward h.0 h.1 f g z (record {
      states = λ p k. rw (n, take-length s) at (ascii_stays s p _ at (at + 1) (omega arith) (omega (arith, n)) (ascii_more s at at (λ j l u. absurd (omega arith)) c.if-s-at-lt128.true) z k);
      colons = λ o k. last_byte s o at passed.result.end k n;
    })

pub returns : goal.returns
returns c =
    let record { a_le_at = h; ascii = f; stays_closed = g } = c.ascii_pairs-p.ensures in
    let z = at_start c.args.q (c.if-ne.ensures) in
    onward h.0 h.1 f g z c.walk_pairs_from-2.ensures
