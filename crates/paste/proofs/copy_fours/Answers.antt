-- The first four bytes and the last four cover all of them.
use native.Mathlib.Omega.{arith}
use Rattle.paste.proofs.Copied.{copied_ends}
use Rattle.paste.proofs.copy_fours.Goals as goal

pub returns : goal.returns
returns c =
    let copy-four-ensures = c.copy_four.ensures in
    let a = c.args in
    copied_ends a.out.now a.at a.bytes.now (omega arith) _ _ _ (omega arith) (omega arith) (omega arith) copy-four-ensures c.copy_four-2.ensures
