-- The bytes from a up to i are stored, and whole blocks are left.
use Prim.Native.Nat.{◌+◌}
use native.Mathlib.Omega.{arith}
use mathlib.Core.Path.{ap, ◌∙◌}
use borrow.Author.Rules.{rules}
use Rattle.paste.specs.Private.{copied}
use Rattle.paste.proofs.Copied.{copied_none, copied_on}
use Rattle.paste.proofs.copy_blocks.Goals as goal

pub loop-i-init : goal.loop-i-init
loop-i-init c = let a = c.args in (search rules, search rules, search rules, search rules, copied_none a.out.now a.at a.bytes.now (omega arith) a.a (omega arith))

pub loop-i-preserved : goal.loop-i-preserved
loop-i-preserved c =
    let a = c.args in
    let x = c.loop-i in
    (search rules, search rules, search rules, search rules, copied_on a.out.now a.at a.bytes.now (omega arith) a.a x.i (x.i + 8) (omega arith) (omega arith) (omega arith) x.invariant.4 c.copy_eight.ensures)

pub returns : goal.returns
returns c = let x = c.loop-i in x.invariant.4 ∙ ap (copied _ _ _ _) (omega arith)
