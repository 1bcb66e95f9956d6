-- The first and the last bytes meet or overlap.
use Rattle.std.proofs.Common.{◌≡◌, ◌+◌, ◌-◌, length, zero-add, arith, eqb-true}
use Rattle.text.proofs.Blocks.{ascii_join, ascii_part}
use Rattle.text.proofs.Words.{or_none}
use Rattle.text.proofs.is_ascii_at_ends.Goals as goal

pub returns : goal.returns
returns c =
    let s = c.args.s.now in
    let n = length s in
    let k = c.args.k in
    let m : n - (n - k) ≡ k = omega arith in
    let e : n - k + k ≡ n = omega arith in
    λ t. let (p, q) = or_none _ _ (eqb-true _ 0 t) in
    let first = rw zero-add at (ascii_part s 0 k (c.high_bits.ensures p) (omega arith)) in
    let last = rw e at (ascii_part s (n - k) k (rw m at (c.high_bits-2.ensures q)) (omega arith)) in
    ascii_join s 0 k (n - k) n (omega arith) first last
