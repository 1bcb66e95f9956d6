-- Each mark with those after it.
use Prim.Native.Nat.{ℕ, ◌+◌, ◌-◌, ◌<◌, ◌≤◌}
use native.Mathlib.Omega.{arith}
use mathlib.Core.Bool.{cond}
use mathlib.Core.List.{List, [], ◌∷◌}
use mathlib.Core.Path.{◌≡◌, refl, ap, ◌∙◌}
use lib.ListN.{length, get_or, take, drop, length-drop}
use lib.Seq.{take_all}
use Rattle.std.proofs.lemmas.List.{length-take}
use Rattle.std.specs.List.{count_by}
use Rattle.std.proofs.lemmas.List.Sums.{sum_by-cons, count_by-le-length}
use Rattle.raw_bytes.specs.Bytes.{same}
use Rattle.runs.specs.Runs.{kind_and_text, kinds_and_texts, equals, pairs}
use Rattle.runs.proofs.Count.{marks_there}

equals_counted : (s t l : List ℕ) → count_by (λ m. same t (kind_and_text s m)) l ≡ equals t (kinds_and_texts s l)
equals_counted s t [] = refl
equals_counted s t (m ∷ l) = sum_by-cons (λ m. cond (same t (kind_and_text s m)) 1 0) m l ∙ ap (λ n. cond (same t (kind_and_text s m)) 1 0 + n) (equals_counted s t l)

-- A mark at a place makes n pairs with those after it
module _ (s l : List ℕ) (i mark n : ℕ) (h : i < length l) (m : mark ≡ get_or l i 0) (e : n ≡ count_by (λ other. same (kind_and_text s mark) (kind_and_text s other)) (take (length l - (i + 1)) (drop (i + 1) l))) where
  is_there : n ≡ equals (kind_and_text s (get_or l i 0)) (kinds_and_texts s (drop (i + 1) l))
  is_there =
      let d : take (length l - (i + 1)) (drop (i + 1) l) ≡ drop (i + 1) l = take_all _ (drop (i + 1) l) (omega (arith, length-drop (i + 1) l)) in
      rw (d, m) at e ∙ equals_counted s (kind_and_text s (get_or l i 0)) (drop (i + 1) l)

  pub few_there : n ≤ length l
  few_there = omega (arith, e, count_by-le-length (λ other. same (kind_and_text s mark) (kind_and_text s other)) (take (length l - (i + 1)) (drop (i + 1) l)), length-take {A = ℕ})

  pub pairs_there : pairs (kinds_and_texts s (drop i l)) ≡ n + pairs (kinds_and_texts s (drop (i + 1) l))
  pairs_there = rw (marks_there s l i h, is_there)
