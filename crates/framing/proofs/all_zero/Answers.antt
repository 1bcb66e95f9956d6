-- The blocks, then the rest.
use mathlib.Core.Bool.{true, false}
use mathlib.Core.List.{List}
use mathlib.Core.Path.{◌≡◌, sym, ap, ◌∙◌}
use Prim.Native.Nat.{ℕ, ◌<◌}
use lib.ListN.{length}
use borrow.Author.Rules.{rules}
use borrow.Author.Tests.{tests}
use Rattle.std.proofs.lemmas.Iterator.{cases_from_all, YieldsList-from_slice}
use Rattle.std.specs.Bool.{MatchBool}
use Rattle.std.specs.List.{AllWithin, HoldsAt}
use Rattle.framing.specs.Framing.{all_zero}
use Rattle.framing.proofs.Padding.{zero_blocks, other_block}
use Rattle.framing.proofs.all_zero.Goals.{After-all}
use Rattle.framing.proofs.all_zero.Goals as goal

-- What the test of the blocks tells
tested : (c : After-all) → let blocks = c.as_chunks.result.0.now in MatchBool c.all.result (AllWithin (λ (b : List ℕ). all_zero b ≡ true) blocks 0 (length blocks)) ((i : ℕ) × (i < length blocks) × HoldsAt (λ (b : List ℕ). all_zero b ≡ false) blocks i)
tested c = cases_from_all _ _ _ (λ (b : List ℕ). all_zero b ≡ true) (λ (b : List ℕ). all_zero b ≡ false) c.all.ensures.ran (YieldsList-from_slice c.as_chunks.result.0.now cc) (λ x q k. search (rules, tests)) (λ x q k. search (rules, tests))

pub returns-then-all : goal.returns-then-all
returns-then-all c =
    let chunks = c.as_chunks.ensures in
    c.zeros.ensures ∙ ap all_zero chunks.back ∙ zero_blocks 64 _ c.args.s.now _ chunks.front chunks.front_len (rw c.if-all.true at (tested (goal.at.returns-then-all c).After-all))

pub returns-else-all : goal.returns-else-all
returns-else-all c =
    let chunks = c.as_chunks.ensures in
    let some = rw c.if-all.false at (tested (goal.at.returns-else-all c).After-all) in
    c.if-all.false ∙ sym (other_block 64 _ c.args.s.now _ chunks.front chunks.front_len some.0 some.1 some.2)
