-- It leaves the lent bytes, does not fit, or is stored after its length.
use native.Mathlib.Omega.{arith}
use mathlib.Core.List.{List}
use mathlib.Core.Path.{ap, ◌∙◌}
use Prim.Native.Nat.{ℕ}
use Rattle.storing.specs.Private.{spot, stored_bytes}
use Rattle.storing.proofs.Rows.{text_outside, text_left, text_stored}
use Rattle.storing.proofs.Output.push_text.Goals as goal

pub returns-in_default-clause-stored : goal.returns-in_default-clause-stored
returns-in_default-clause-stored c =
    let a = c.args in
    let lookup = c.in_default.ensures.lookup in
    text_outside a.text.now a.row.offset a.row.value a.self.now.at a.self.now.dest.now c.requires (grind arith)

pub returns-else-end-self-clause-stored : goal.returns-else-end-self-clause-stored
returns-else-end-self-clause-stored c =
    let a = c.args in
    let lookup = c.in-Some.ensures.lookup.0 in
    text_left a.text.now a.row.offset a.row.value a.self.now.at a.self.now.dest.now c.in-Some.bytes.now lookup.1 lookup.2 (omega arith)

pub returns-then-end-self-clause-stored : goal.returns-then-end-self-clause-stored
returns-then-end-self-clause-stored c =
    let a = c.args in
    let out = a.self.now in
    let lookup = c.in-Some.ensures.lookup.0 in
    let size = c.push.ensures.stored ∙ ap (λ (b : List ℕ). stored_bytes b (spot out.at out.dest.now)) c.to_le_bytes.ensures in
    text_stored a.text.now a.row.offset a.row.value out.at out.dest.now c.in-Some.bytes.now lookup.1 lookup.2 (omega arith) _ _ _ size c.paste.ensures
