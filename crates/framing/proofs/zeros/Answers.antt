-- The bitwise or of the bytes is 0 exactly if all of them are.
use mathlib.Core.Path.{ap, ◌∙◌}
use Prim.Native.Nat.{ℕ}
use lib.Bits.{bit_or}
use lib.Dec.{eqb}
use borrow.Author.Rules.{rules}
use Rattle.std.proofs.lemmas.Iterator.{YieldsList-from_slice}
use Rattle.std.proofs.lemmas.Iterator.Consumers.{fold_from_yields_List}
use Rattle.framing.proofs.Padding.{fold_zero}
use Rattle.framing.proofs.zeros.Goals as goal

pub returns : goal.returns
returns c =
    let bytes = c.args.s.now in
    ap (λ (bits : ℕ). eqb bits 0) (fold_from_yields_List _ bit_or 0 c.fold.result c.fold.ensures.ran (YieldsList-from_slice bytes cc) (λ a x b q k. search rules))
    ∙ fold_zero 0 bytes
