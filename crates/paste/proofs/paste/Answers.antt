-- They do not fit; or all of them are stored.
use native.Mathlib.Omega.{arith}
use mathlib.Core.Path.{sym}
use Rattle.paste.proofs.Pasted.{pasted_kept}
use Rattle.paste.proofs.paste.Goals as goal

pub returns-then-out-at : goal.returns-then-out-at
returns-then-out-at c = let a = c.args in sym (pasted_kept a.out.now a.at a.bytes.now (omega arith))

pub returns-then-out-at-2 : goal.returns-then-out-at-2
returns-then-out-at-2 c = let a = c.args in sym (pasted_kept a.out.now a.at a.bytes.now (omega arith))
