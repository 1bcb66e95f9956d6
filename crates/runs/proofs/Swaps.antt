-- An exchange of two marks leaves the number of pairs as it was.
use Prim.Native.Nat.{ℕ, zero, suc, ◌+◌, ◌<◌, ◌≤◌}
use native.Mathlib.Omega.{arith}
use mathlib.Core.Bool.{Bool, true, false, cond}
use mathlib.Core.List.{List, [], ◌∷◌, map}
use mathlib.Core.Path.{◌≡◌, refl, sym, ◌∙◌}
use lib.ListN.{length, get_or, set, length-set}
use borrow.Author.Tests.{le-leb, lt-leb}
use Rattle.layout.specs.Answers.{limit}
use Rattle.raw_bytes.specs.Bytes.{same}
use Rattle.raw_bytes.proofs.Compared.{same_sound, same_refl}
use Rattle.runs.specs.Runs.{kind_and_text, kinds_and_texts, equals, pairs, equal_pairs}
use Rattle.std.specs.List.{swap}
use Rattle.std.specs.List.Sorted.{IsPermutation}
use Rattle.std.proofs.lemmas.List.Sorted.{IsPermutation-map, IsPermutation-keeps}

-- 1 if two lists are the same, else 0
unfoldable one : List ℕ → List ℕ → ℕ
one t u = cond (same t u) 1 0

one_refl : (t : List ℕ) → one t t ≡ 1
unfolding one
one_refl t = rw (same_refl t)

one_sym : (t u : List ℕ) → one t u ≡ one u t
unfolding one
one_sym t u = go (same t u) (same u t) refl refl
  where
    go : (b c : Bool) → same t u ≡ b → same u t ≡ c → ◌≡◌ {A = ℕ} (cond b 1 0) (cond c 1 0)
    go true true p q = refl
    go false false p q = refl
    go true false p q = let e = same_sound t u p in let z : true ≡ false = sym (same_refl u) ∙ (rw e at q) in let y : ◌≡◌ {A = ℕ} 0 1 = cc in absurd (omega arith)
    go false true p q = let e = same_sound u t q in let z : true ≡ false = sym (same_refl t) ∙ (rw e at p) in let y : ◌≡◌ {A = ℕ} 0 1 = cc in absurd (omega arith)

equals_cons : (t u : List ℕ) (us : List (List ℕ)) → equals t (u ∷ us) ≡ one t u + equals t us
unfolding one
equals_cons t u us = refl

-- One list put in the place of another
module _ (d : List ℕ) where
  equals_set : (t : List ℕ) (l : List (List ℕ)) (i : ℕ) (v : List ℕ) → i < length l → equals t (set l i v) + one t (get_or l i d) ≡ equals t l + one t v
  unfolding one
  equals_set t [] i v h = absurd (omega arith)
  equals_set t (x ∷ l) zero v h = omega arith
  equals_set t (x ∷ l) (suc i) v h = omega (arith, equals_set t l i v (omega arith))

  pairs_set : (l : List (List ℕ)) (i : ℕ) (v : List ℕ) → i < length l → pairs (set l i v) + one v (get_or l i d) + equals (get_or l i d) l ≡ pairs l + 1 + equals v l
  pairs_set [] i v h = absurd (omega arith)
  pairs_set (x ∷ l) zero v h = omega (arith, equals_cons x x l, equals_cons v x l, one_refl x)
  pairs_set (x ∷ l) (suc i) v h =
      omega (arith, pairs_set l i v (omega arith), equals_set x l i v (omega arith), equals_cons (get_or l i d) x l, equals_cons v x l, one_sym x v, one_sym x (get_or l i d))

  after_set : (l : List (List ℕ)) (i j : ℕ) → j < length l → get_or (set l i (get_or l j d)) j d ≡ get_or l j d
  after_set [] i j h = absurd (omega arith)
  after_set (x ∷ l) zero zero h = refl
  after_set (x ∷ l) zero (suc j) h = refl
  after_set (x ∷ l) (suc i) zero h = refl
  after_set (x ∷ l) (suc i) (suc j) h = after_set l i j (omega arith)

  pairs_swap : (l : List (List ℕ)) (i j : ℕ) → i < length l → j < length l → pairs (set (set l i (get_or l j d)) j (get_or l i d)) ≡ pairs l
  pairs_swap l i j h k =
      let x = get_or l i d in
      let y = get_or l j d in
      let m = set l i y in
      let e : get_or m j d ≡ y = after_set l i j k in
      let n : j < length m = omega (arith, length-set l i y) in
      let q : pairs (set m j x) + one x y + equals y m ≡ pairs m + 1 + equals x m = rw e at (pairs_set m j x n) in
      omega (arith, q, pairs_set l i y h, equals_set x l i y h, equals_set y l i y h, one_refl x, one_refl y, one_sym x y)

module _ {A B : Type 0} (f : A → B) where
  map_set : (l : List A) (i : ℕ) (v : A) → map f (set l i v) ≡ set (map f l) i (f v)
  map_set [] i v = refl
  map_set (x ∷ l) zero v = refl
  map_set (x ∷ l) (suc i) v = rw (map_set l i v)

-- In another order there are as many pairs
pairs_moved : (ts us : List (List ℕ)) (i j : ℕ) → i < length us → j < length us → pairs us ≡ pairs ts → pairs (swap us i j) ≡ pairs ts
pairs_moved ts [] i j h k e = absurd (omega arith)
pairs_moved ts (u ∷ us) i j h k e = pairs_swap u (u ∷ us) i j h k ∙ e

pub pairs_sorted : (s l m : List ℕ) → IsPermutation l m → pairs (kinds_and_texts s m) ≡ pairs (kinds_and_texts s l)
pairs_sorted s l m p =
    let ts = kinds_and_texts s l in
    IsPermutation-keeps ts (λ us. pairs us ≡ pairs ts) refl (pairs_moved ts) (kinds_and_texts s m) (IsPermutation-map (kind_and_text s) l m p)

-- The pairs of the marks as they were, up to the limit; and none above it
module _ (s l : List ℕ) where
  pub pairs_few : length l ≤ limit → pairs (kinds_and_texts s l) ≡ equal_pairs s l
  unfolding equal_pairs
  pairs_few h = rw (le-leb (length l) limit h)

  pub pairs_many : limit < length l → 0 ≡ equal_pairs s l
  unfolding equal_pairs
  pairs_many h = rw (lt-leb (length l) limit h)
