use Rattle.std.proofs.Common.{arith}
use Rattle.fixed_text.proofs.Extended.{zeros_after}
use Rattle.fixed_text.proofs.FixedText.push.Goals as goal

pub invariant_of-self : goal.invariant_of-self
invariant_of-self g c =
    let s = c.self in
    (omega arith, zeros_after g.row.N s.inside.len _ s.inside.bytes _ (omega arith) s.invariant.1)
