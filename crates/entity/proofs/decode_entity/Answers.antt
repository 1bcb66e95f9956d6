-- The three calls together are the reading alone.
use native.Mathlib.Omega.{arith}
use mathlib.Core.Path.{◌≡◌, ap, ◌∙◌}
use Rattle.std.proofs.Common.{rules}
use Rattle.layout.specs.Entities.{Entity}
use Rattle.leaf.proofs.Decoded.{decoded}
use Rattle.entity.proofs.decode_entity.Goals as goal

pub returns-clause-t_after : goal.returns-clause-t_after
returns-clause-t_after c =
    let bytes = c.type_inv.payload in
    let told = decoded Entity 1 c.args.payload.now c.args.t.now (λ i h. omega (arith, bytes i)) c.new-reader.ensures.bytes c.new-reader.ensures.state c.entity.ensures c.answer_alone.ensures.answer in
    let same : c.answer_alone.new.self.t.ghost_name ≡ c.new-reader.result.t.ghost_name = ap (λ x. x.1) (c.answer_alone.ensures.lent ∙ c.entity.ensures.lent) in
    search (rules, told.0, same)

pub returns-clause-exact_alone : goal.returns-clause-exact_alone
returns-clause-exact_alone c =
    let bytes = c.type_inv.payload in
    let told = decoded Entity 1 c.args.payload.now c.args.t.now (λ i h. omega (arith, bytes i)) c.new-reader.ensures.bytes c.new-reader.ensures.state c.entity.ensures c.answer_alone.ensures.answer in
    let same : c.answer_alone.new.self.t.ghost_name ≡ c.new-reader.result.t.ghost_name = ap (λ x. x.1) (c.answer_alone.ensures.lent ∙ c.entity.ensures.lent) in
    search (rules, told.1, same)
