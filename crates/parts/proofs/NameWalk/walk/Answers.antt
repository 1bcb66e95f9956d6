-- The bytes walked over as a text of their own, and counted on.
use Prim.Native.Nat.{ℕ}
use mathlib.Core.List.{List, ◌++◌}
use mathlib.Core.Path.{◌≡◌, sym, ap, ◌∙◌}
use Rattle.text.specs.States.{state_of}
use Rattle.parts.specs.Names.{Standing, unbegun, held, walked_over, StandsAfter, standing}
use Rattle.parts.specs.Private.{end_after}
use Rattle.parts.proofs.Names.{held_is, later, seen_after_lem, walk_append}
use Rattle.parts.proofs.NameWalk.walk.Goals as goal

-- The second promise follows from the first
onward : (w r : Standing) (m : List ℕ) → r ≡ walked_over w m → (l : List ℕ) → StandsAfter l w → StandsAfter (l ++ m) r
onward w r m e l s = e ∙ ap (λ (x : Standing). walked_over x m) s ∙ sym (walk_append unbegun l m)

pub returns : goal.returns
returns c =
    let args = c.args in
    let w = standing args.self in
    let m = args.bytes.now in
    let walked = c.walk_colons-walked in
    let (o, e, s) = later w.colons m in
    let start = c.start_after.ensures ∙ ap (λ (n : ℕ). held (end_after args.self.start args.self.seen n)) walked.ensures.end_value ∙ ap held (sym e) in
    let seen = c.saturating_add.ensures ∙ held_is _ ∙ ap held (sym (seen_after_lem m w.colons)) in
    let opened = walked.ensures.opened_value ∙ sym o in
    let state = walked.ensures.state_value in
    let r : Standing = record { state = state_of walked.result.state; colons = record { opened = walked.result.opened; end = c.start_after.result; seen = c.saturating_add.result } } in
    let q : r ≡ walked_over w m = cc in
    record { result_value = q; by_index = onward w r m q }
