-- The three calls together are the reading alone.
use native.Mathlib.Omega.{arith}
use mathlib.Core.Path.{◌≡◌, ap, ◌∙◌}
use Rattle.std.proofs.Common.{rules}
use Rattle.layout.specs.Entities.{SqlMapping}
use Rattle.leaf.proofs.Decoded.{decoded}
use Rattle.metadata.proofs.decode_sql_mapping.Goals as goal

pub returns-clause-t_after : goal.returns-clause-t_after
returns-clause-t_after c =
    let bytes = c.type_inv.s in
    let told = decoded SqlMapping 0 c.args.s.now c.args.t.now (λ i h. omega (arith, bytes i)) c.new-reader.ensures.bytes c.new-reader.ensures.state c.sql_mapping.ensures c.answer_alone.ensures.answer in
    let same : c.answer_alone.new.self.t.ghost_name ≡ c.new-reader.result.t.ghost_name = ap (λ x. x.1) (c.answer_alone.ensures.lent ∙ c.sql_mapping.ensures.lent) in
    search (rules, told.0, same)

pub returns-clause-exact_alone : goal.returns-clause-exact_alone
returns-clause-exact_alone c =
    let bytes = c.type_inv.s in
    let told = decoded SqlMapping 0 c.args.s.now c.args.t.now (λ i h. omega (arith, bytes i)) c.new-reader.ensures.bytes c.new-reader.ensures.state c.sql_mapping.ensures c.answer_alone.ensures.answer in
    let same : c.answer_alone.new.self.t.ghost_name ≡ c.new-reader.result.t.ghost_name = ap (λ x. x.1) (c.answer_alone.ensures.lent ∙ c.sql_mapping.ensures.lent) in
    search (rules, told.1, same)
