-- The first i bytes are stored.
use Prim.Native.Nat.{◌+◌}
use native.Mathlib.Omega.{arith}
use borrow.Author.Rules.{rules}
use Rattle.paste.proofs.Copied.{byte_copied, copied_none, copied_on, copied_all}
use Rattle.paste.proofs.copy_each.Goals as goal

pub loop-i-init : goal.loop-i-init
loop-i-init c = let a = c.args in (search rules, search rules, copied_none a.out.now a.at a.bytes.now (omega arith) 0 (omega arith))

pub loop-i-preserved : goal.loop-i-preserved
loop-i-preserved c =
    let a = c.args in
    let x = c.loop-i in
    (search rules, search rules, copied_on a.out.now a.at a.bytes.now (omega arith) 0 x.i (x.i + 1) (omega arith) (omega arith) (omega arith) x.invariant.2 (byte_copied _ _ _ (omega arith) x.i (omega arith)))

pub returns : goal.returns
returns c =
    let a = c.args in
    let x = c.loop-i in
    copied_all a.out.now a.at a.bytes.now x.i (omega arith) x.invariant.2
