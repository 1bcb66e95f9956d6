-- No pair is open after the first i bytes, which are ASCII from a on.
use Rattle.std.proofs.Common.{◌≡◌, ℕ, ◌+◌, ◌<◌, List, get_or, arith, rules}
use lib.Bits.{bit_or}
use Rattle.text.specs.Private.{Ascii}
use Rattle.text.proofs.Blocks.{ascii_more}
use Rattle.text.proofs.Words.{or_l, or_r}
use Rattle.text.proofs.Colons.{closed_other, closed_pair, closed_two}
use Rattle.text.proofs.ascii_pairs.Goals as goal

ascii-two : (s : List ℕ) (a i : ℕ) → Ascii s a i → bit_or (get_or s i 0) (get_or s (i + 1) 0) < 128 → Ascii s a (i + 2)
ascii-two s a i f h =
    let two : i + 2 ≡ i + 1 + 1 = omega arith in
    let l = or_l (get_or s i 0) (get_or s (i + 1) 0) in
    let r = or_r (get_or s i 0) (get_or s (i + 1) 0) in
    rw two (ascii_more s a (i + 1) (ascii_more s a i f (omega (arith, h, l))) (omega (arith, h, r)))

pub loop-i-preserved-then-s-j-ne58 : goal.loop-i-preserved-then-s-j-ne58
loop-i-preserved-then-s-j-ne58 c =
    let s = c.args.s.now in
    let loop = c.loop-i in
    let two : loop.i + 2 ≡ loop.i + 1 + 1 = omega arith in
    (search rules, search rules, search rules, ascii-two s _ loop.i loop.invariant.3 c.if-s-i-ge128.false, λ o z. rw two (closed_two s o loop.i loop.end (loop.invariant.4 o z) (search rules) c.if-s-j-ne58.true))

pub loop-i-preserved-then-s-i-eq58 : goal.loop-i-preserved-then-s-i-eq58
loop-i-preserved-then-s-i-eq58 c =
    let s = c.args.s.now in
    let loop = c.loop-i in
    let two : loop.i + 2 ≡ loop.i + 1 + 1 = omega arith in
    (search rules, search rules, search rules, ascii-two s _ loop.i loop.invariant.3 c.if-s-i-ge128.false, λ o z. rw two (closed_pair s o loop.i loop.end (loop.invariant.4 o z) (search rules) c.if-s-i-eq58.true c.if-s-j-ne58.false))

pub loop-i-preserved : goal.loop-i-preserved
loop-i-preserved c =
    let s = c.args.s.now in
    let loop = c.loop-i in
    (search rules, search rules, search rules, ascii_more s _ loop.i loop.invariant.3 (omega (arith, or_l (get_or s loop.i 0) (get_or s (loop.i + 1) 0), c.if-s-i-ge128.false)), λ o z. closed_other s o loop.i loop.end (loop.invariant.4 o z) (search rules) c.if-s-i-eq58.false)
