-- Too many bytes, or the framing from the section's start.
use native.Mathlib.Omega.{arith}
use mathlib.Core.Path.{◌∙◌}
use Rattle.framing.proofs.Refusals.{framing_end_lem, framing_limit, framing_alone}
use Rattle.framing.proofs.entry_payloads.Goals as goal

pub returns-then-section-gt-LIMIT : goal.returns-then-section-gt-LIMIT
returns-then-section-gt-LIMIT c =
    let told = framing_limit c.args.section.now (λ i h. omega (arith, c.type_inv.section i)) _ c.if-section-gt-LIMIT.true (rw c.at.ensures) in
    record { result_value = told.0; exact_framing = told.1 }

pub returns : goal.returns
returns c =
    let told = framing_alone c.args.section.now (λ i h. omega (arith, c.type_inv.section i)) _ c.if-section-gt-LIMIT.false (c.framing_from.ensures ∙ framing_end_lem c.args.section.now) in
    record { result_value = told.0; exact_framing = told.1 }
