-- The first m bytes and the last m cover all of them.
use native.Mathlib.Omega.{arith}
use Rattle.paste.proofs.Copied.{copied_ends}
use Rattle.paste.proofs.copy_ends.Goals as goal

pub returns : goal.returns
returns c =
    let copy-blocks-ensures = c.copy_blocks.ensures in
    let a = c.args in
    copied_ends a.out.now a.at a.bytes.now (omega arith) _ _ _ (omega arith) (omega arith) (omega arith) copy-blocks-ensures c.copy_blocks-2.ensures
