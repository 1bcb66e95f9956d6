-- Four bytes are read and stored, and the next four.
use native.Mathlib.Omega.{arith}
use mathlib.Core.Path.{refl}
use Prim.Native.Nat.{◌+◌}
use Rattle.paste.proofs.Copied.{copied_on, part_copied}
use Rattle.paste.proofs.copy_eight.Goals as goal

pub returns : goal.returns
returns c =
    let a = c.args in
    let four-at = c.four_at-x.ensures in
    let four-at2 = c.four_at-y.ensures in
    let put_four = c.put_four.ensures in
    copied_on a.out.now a.at a.bytes.now (omega arith) a.i (a.i + 4) (a.i + 8) (omega arith) (omega arith) (omega arith)
    (part_copied _ _ _ _ 4 _ refl four-at put_four)
    (part_copied _ _ _ _ 4 _ (omega arith) four-at2 c.put_four-2.ensures)
