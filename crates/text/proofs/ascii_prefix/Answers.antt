-- The blocks so far are ASCII; the last one may overlap them.
use Rattle.std.proofs.Common.{◌≡◌, ◌+◌, ◌-◌, ◌*◌, length, arith}
use Rattle.text.proofs.Blocks.{ascii_join, ascii_part}
use Rattle.text.proofs.ascii_prefix.Goals as goal

pub loop-k-preserved : goal.loop-k-preserved
loop-k-preserved c =
    let s = c.args.s.now in
    let at = c.loop-k.k * 64 in
    let n : (c.loop-k.k + 1) * 64 ≡ at + 64 = omega arith in
    let m : at + 64 - at ≡ 64 = omega arith in
    let block = rw m at (c.is_ascii.ensures c.if-not-is_ascii.false) in
    rw n (ascii_join s 0 at at (at + 64) (omega arith) c.loop-k.invariant (ascii_part s at 64 block (omega arith)))

pub returns-then-is_ascii : goal.returns-then-is_ascii
returns-then-is_ascii c =
    let s = c.args.s.now in
    let n = length s in
    let m : n - (n - 64) ≡ 64 = omega arith in
    let last = rw m at (c.is_ascii-2.ensures c.if-is_ascii.true) in
    let e : n - 64 + 64 ≡ n = omega arith in
    (omega arith, ascii_join s 0 (c.loop-k.k * 64) (n - 64) n (omega arith) c.loop-k.invariant (rw e at (ascii_part s (n - 64) 64 last (omega arith))))
