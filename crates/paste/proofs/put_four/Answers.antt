-- The four stores.
use native.Mathlib.Omega.{arith}
use lib.ListN.{length-set}
use borrow.Author.Rules.{rules}
use Rattle.paste.proofs.Copied.{array_pasted}
use Rattle.paste.proofs.put_four.Goals as goal

pub bounds-out-to-2 : goal.bounds-out-to-2
bounds-out-to-2 c = simp length-set (omega arith)

pub bounds-out-to-3 : goal.bounds-out-to-3
bounds-out-to-3 c = simp length-set (omega arith)

pub bounds-out-to-4 : goal.bounds-out-to-4
bounds-out-to-4 c = simp length-set (omega arith)

pub returns : goal.returns
returns c =
    let a = c.args in
    array_pasted a.out.now a.to a.b 3 (search rules) (omega arith)
