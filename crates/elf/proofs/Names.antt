-- Names: one that a section can have, and one that stands in a table with a zero byte after it.
use Prim.Native.Nat.{ℕ, suc, ◌-◌, ◌≤◌, ◌<◌}
use native.Mathlib.Omega.{arith}
use mathlib.Core.Bool.{Bool, true, false, not, ◌&&◌, and_assoc, and-true, and-false}
use mathlib.Core.List.{List, [], ◌∷◌, ◌++◌}
use mathlib.Core.Path.{◌≡◌, refl, ◌∙◌}
use lib.Dec.{eqb}
use lib.ListN.{length, get_or, take, drop, length-append, length-take, length-drop}
use lib.Seq.{take-suc, take_all, length-take-le}
use lib.Pointwise.{pointwise}
use borrow.Author.Tests.{eq-eqb, ne_eqb}
use Rattle.std.proofs.Common.{nat_eq}
use Rattle.std.specs.List.{list_any}
use Rattle.raw_bytes.specs.Bytes.{same}
use Rattle.raw_bytes.proofs.Compared.{same_not}
use Rattle.elf.specs.Find.{no_zero, is_named_at}

-- One more byte on each side
same_last : (a b : List ℕ) (x y : ℕ) → length a ≡ length b → same (a ++ (x ∷ [])) (b ++ (y ∷ [])) ≡ (same a b && eqb x y)
same_last [] [] x y e = and-true (eqb x y)
same_last [] (c ∷ b) x y e = absurd (omega arith)
same_last (c ∷ a) [] x y e = absurd (omega arith)
same_last (c ∷ a) (d ∷ b) x y e = rw (same_last a b x y (omega arith), and_assoc (eqb c d) (same a b))

-- The bytes compared one by one
pointwise_same : (a b : List ℕ) → pointwise nat_eq a b ≡ same a b
pointwise_same [] [] = refl
pointwise_same [] (y ∷ b) = refl
pointwise_same (x ∷ a) [] = refl
pointwise_same (x ∷ a) (y ∷ b) = rw (pointwise_same a b)

-- The bytes of a table from an offset on
module _ (table : List ℕ) (offset : ℕ) (name rest : List ℕ) (from : rest ≡ take (length table - offset) (drop offset table)) where
  rest_is : rest ≡ drop offset table
  rest_is = from ∙ take_all (length table - offset) (drop offset table) (omega (arith, length-drop offset table))

  pub named_short : length rest ≤ length name → is_named_at table offset name ≡ false
  unfolding is_named_at
  named_short h =
      rw (← rest_is)
      (same_not (take (suc (length name)) rest) (name ++ (0 ∷ [])) λ e. omega (arith, e, length-append name (0 ∷ []), length-take (suc (length name)) rest))

  module _ (h : length name < length rest) where
    -- The name, and the byte after it
    named_parts : is_named_at table offset name ≡ (same (take (length name) rest) name && eqb (get_or rest (length name) 0) 0)
    unfolding is_named_at
    named_parts =
        rw (← rest_is, take-suc rest (length name) 0 h)
        (same_last (take (length name) rest) name (get_or rest (length name) 0) 0 (length-take-le (length name) rest (omega arith)))

    pub named_other : (get_or rest (length name) 0 ≡ 0 → ⊥) → is_named_at table offset name ≡ false
    named_other e = named_parts ∙ rw (ne_eqb (get_or rest (length name) 0) 0 e, and-false)

    pub named_end : get_or rest (length name) 0 ≡ 0 → is_named_at table offset name ≡ pointwise nat_eq (take (length name) rest) name
    named_end e = named_parts ∙ rw (eq-eqb (get_or rest (length name) 0) 0 e, and-true, pointwise_same)

-- A byte that is zero, or none
pub zero_any : (name : List ℕ) → no_zero name ≡ not (list_any (λ y. nat_eq y 0) name)
zero_any [] = refl
zero_any (b ∷ name) = by_test (eqb b 0) refl (zero_any name)
  where
    by_test : (t : Bool) → eqb b 0 ≡ t → no_zero name ≡ not (list_any (λ y. nat_eq y 0) name) → no_zero (b ∷ name) ≡ not (list_any (λ y. nat_eq y 0) (b ∷ name))
    by_test true e f = rw e
    by_test false e f = rw (e, f)
