-- Too many bytes, a refusal of the framing, or what the walk gave.
use Rattle.std.proofs.Common.{arith, rules}
use Rattle.directory.proofs.Looking.{looked_long, looked_unframed, looked_whole}
use Rattle.directory.proofs.entity_at.Goals as goal

pub returns-then-section-gt-LIMIT : goal.returns-then-section-gt-LIMIT
returns-then-section-gt-LIMIT c =
    let told = looked_long c.args.section.now (λ i h. omega (arith, c.type_inv.section i)) c.args.position c.if-section-gt-LIMIT.true in
    record { result_value = rw c.at.ensures told.0; exact_holder = rw c.at.ensures told.1 }

pub returns-in_err-framing_from-clause-result_value : goal.returns-in_err-framing_from-clause-result_value
returns-in_err-framing_from-clause-result_value c =
    let look = c.look_at-look in
    let told = looked_unframed c.args.section.now (λ i h. omega (arith, c.type_inv.section i)) c.args.position c.if-section-gt-LIMIT.false _ _ look.result.seen (rw c.new-reader.ensures.bytes at look.ensures) _ c.framing_from.ensures _ c.in_err-framing_from.was in
    search (rules, told.0)

pub returns-in_err-framing_from-clause-exact_holder : goal.returns-in_err-framing_from-clause-exact_holder
returns-in_err-framing_from-clause-exact_holder c =
    let look = c.look_at-look in
    let told = looked_unframed c.args.section.now (λ i h. omega (arith, c.type_inv.section i)) c.args.position c.if-section-gt-LIMIT.false _ _ look.result.seen (rw c.new-reader.ensures.bytes at look.ensures) _ c.framing_from.ensures _ c.in_err-framing_from.was in
    search (rules, told.1)

pub returns : goal.returns
returns c =
    let look = c.look_at-look in
    let told = looked_whole c.args.section.now (λ i h. omega (arith, c.type_inv.section i)) c.args.position c.if-section-gt-LIMIT.false _ _ look.result.seen (rw c.new-reader.ensures.bytes at look.ensures) _ c.framing_from.ensures _ c.in_ok-framing_from.was _ c.holder_in.ensures in
    record { result_value = told.0; exact_holder = told.1 }
