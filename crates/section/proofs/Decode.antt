-- The whole reading, from the results of the code's calls.
use Prim.Native.Nat.{ℕ, ◌≤◌, ◌<◌}
use native.Mathlib.Omega.{arith}
use mathlib.Core.List.{List}
use mathlib.Core.Path.{◌≡◌, refl, sym, subst, ◌∙◌}
use lib.ListN.{length}
use borrow.Author.Tests.{lt-leb, le-leb}
use Rattle.layout.specs.Reading.{ok, refuse}
use Rattle.layout.specs.Answers.{limit, Result, refusal}
use Rattle.layout.specs.Theorems.{Bytes}
use Rattle.reading.specs.Answered.{answered}
use Rattle.framing.specs.Framing.{Parts, framing}
use Rattle.framing.specs.Answers.{end_of, framing_end}
use Rattle.section.specs.Section.{read_section, reading}
use Rattle.section.specs.Demand3.{Demand3}
use Rattle.section.specs.Entry.{Stage}
use Rattle.section.specs.Private.{Reads}
use Rattle.section.proofs.Demand3.{reading_meets}
use Rattle.section.proofs.Entries.{answers}

-- The second clause, from the first
pub promised : (s table : List ℕ) (r : Result) → Bytes s → r ≡ reading s table → Demand3 s table r
promised s table r u e = subst (λ (x : Result). Demand3 s table x) (sym e) (reading_meets s u table)

-- A section whose framing is refused
pub refused_section : (s : List ℕ) → length s ≤ limit → (n p : ℕ) → framing_end s ≡ refuse n p → read_section s ≡ refuse n p
unfolding read_section framing_end
refused_section s small n p q = go (framing s) refl q
  where
    go : (g : Parts) → framing s ≡ g → end_of g ≡ refuse n p → read_section s ≡ refuse n p
    go (ok ps end) k w = let z : ◌≡◌ {A = ℕ} 0 1 = cc in absurd (omega arith)
    go (refuse m l) k w =
        let a : m ≡ n = cc in
        let b : l ≡ p = cc in
        rw (le-leb (length s) limit small, k, a, b)

module _ (s table : List ℕ) (r : Result) where
  -- 1
  pub by_limit : limit < length s → r ≡ refusal 1 0 table → r ≡ reading s table
  unfolding reading read_section
  by_limit h e = e ∙ rw (lt-leb (length s) limit h)

  module _ (small : length s ≤ limit) where
    -- 2 to 4, whatever the walk has stored
    pub by_framing : (stored : List ℕ) → length stored ≡ length table → (n p : ℕ) → framing_end s ≡ refuse n p → r ≡ refusal n p stored → r ≡ reading s table
    unfolding reading
    by_framing stored l n p q e = e ∙ rw (refused_section s small n p q, l)

    -- 5 to 13, or acceptance
    pub by_entries : (end : ℕ) (g : Stage) → Reads table end g (read_section s) → r ≡ answered g.entities g.state → r ≡ reading s table
    unfolding reading
    by_entries end g h e = e ∙ answers table end g (read_section s) h
