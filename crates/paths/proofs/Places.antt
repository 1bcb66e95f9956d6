-- The marks of the full_path texts, found entry after entry.
use Prim.Native.Nat.{ℕ, ◌+◌, ◌-◌, ◌<◌, ◌≤◌}
use native.Mathlib.Numerals.{add-one}
use native.Mathlib.Omega.{arith}
use mathlib.Core.List.{List, [], ◌∷◌, ◌++◌, append_assoc, append-nil}
use mathlib.Core.Path.{◌≡◌, refl, sym, ap, ◌∙◌}
use lib.ListN.{length, take, set}
use lib.Seq.{take-suc-set, length-take-le}
use Rattle.std.specs.List.{slice_range}
use Rattle.layout.specs.Answers.{limit}
use Rattle.runs.specs.Runs.{kind_and_text, kinds_and_texts, pairs, equal_pairs}
use Rattle.runs.proofs.Swaps.{pairs_few}
use Rattle.section.specs.Rest.{Rest}
use Rattle.paths.specs.Private.{paths_of, Counts, Gathered, NoneLeft, First}
use Rattle.paths.proofs.Walk.{paths_unique}

module _ (s : List ℕ) where
  marks_append : (l m : List ℕ) → kinds_and_texts s (l ++ m) ≡ kinds_and_texts s l ++ kinds_and_texts s m
  marks_append [] m = refl
  marks_append (x ∷ l) m = rw (marks_append l m)

-- The marks of the `found` texts before a boundary stand in the work, if there is room
pub record SoFar (s work : List ℕ) (at found : ℕ) : Type 0 where
  pub rest : Rest s at
  pub bound : found ≤ at
  pub are : found ≤ length work → (w : Rest s 0) → paths_of w ≡ kinds_and_texts s (take found work) ++ paths_of rest

pub so_far_none : {s work : List ℕ} → Rest s 0 → SoFar s work 0 0
so_far_none w = record { rest = w; bound = omega arith; are = λ h x. paths_unique x w }

module _ {s work : List ℕ} {at found : ℕ} (p : SoFar s work at found) where
  -- No room, or one more
  pub so_far_full : (mark next : ℕ) → First s at (kind_and_text s mark ∷ []) next → length work ≤ found → SoFar s work next (found + 1)
  so_far_full mark next f h = record { rest = f.rest; bound = omega (arith, p.bound, f.on); are = λ k. absurd (omega arith) }

  pub so_far_on : (mark next : ℕ) → First s at (kind_and_text s mark ∷ []) next → found < length work → SoFar s (set work found mark) next (found + 1)
  so_far_on mark next f h = record {
    rest = f.rest;
    bound = omega (arith, p.bound, f.on);
    are = λ k w. p.are (omega arith) w ∙ rw (f.are p.rest, add-one, take-suc-set work found mark h, marks_append s (take found work) (mark ∷ []), append_assoc);
  }

  pub so_far_all : NoneLeft s at → Gathered s work found
  so_far_all n = record {
    small = omega (arith, p.bound, p.rest.inside, p.rest.small);
    are = λ h w. sym (p.are h w ∙ rw (n p.rest) (append-nil _));
  }

-- The pairs among the marks that were found
pub gathered_counts : (s work : List ℕ) (found : ℕ) → Gathered s work found → found ≤ length work → (marks : List ℕ) → marks ≡ slice_range work 0 found → (n : ℕ) → n ≡ equal_pairs s marks → Counts s 0 n
gathered_counts s work found g h marks m n e w =
    let k : found - 0 ≡ found = omega arith in
    let t : marks ≡ take found work = rw k at m in
    let l : length marks ≤ limit = omega (arith, g.small, ap length t, length-take-le found work h) in
    e ∙ sym (pairs_few s marks l) ∙ ap pairs (rw t (g.are h w))
