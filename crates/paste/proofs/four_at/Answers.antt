-- The four bytes read are those of the part.
use native.Mathlib.Omega.{arith}
use Rattle.paste.proofs.Copied.{read_slice}
use Rattle.paste.proofs.four_at.Goals as goal

pub returns : goal.returns
returns c =
    let a = c.args in
    read_slice a.bytes.now a.i 3 (omega arith)
