-- Zeros, tested one after the other.
use Prim.Native.Nat.{ℕ, zero, suc, ◌+◌, ◌*◌, ◌<◌}
use native.Mathlib.Omega.{arith}
use mathlib.Core.Bool.{Bool, true, false, ◌&&◌}
use mathlib.Core.List.{List, [], ◌∷◌, ◌++◌}
use mathlib.Core.Path.{◌≡◌, refl, sym, ap, ◌∙◌}
use lib.Bits.{bit_or, or_zero_l, or_add_and, and_le_r}
use lib.Dec.{eqb}
use lib.ListN.{length, get_or, take, drop, take-append-drop}
use lib.Seq.{drop-drop}
use Rattle.std.specs.List.{fold, AllWithin, HoldsAt}
use Rattle.std.specs.Simd.{first_chunks}
use borrow.Author.Tests.{ne_eqb}
use Rattle.framing.specs.Framing.{all_zero}

-- Zeros, by the bitwise or of the bytes
or_zero : (a b : ℕ) → eqb (bit_or a b) 0 ≡ (eqb a 0 && eqb b 0)
or_zero zero b = ap (λ (x : ℕ). eqb x 0) (or_zero_l b)
or_zero (suc a) b =
    ne_eqb (bit_or (suc a) b) 0 (λ e. omega (arith, e, or_add_and (suc a) b, and_le_r (suc a) b))
    ∙ sym (ap (λ (x : Bool). x && eqb b 0) (ne_eqb (suc a) 0 (λ e. omega arith)))

and_assoc : (x y z : Bool) → (x && (y && z)) ≡ ((x && y) && z)
and_assoc true y z = refl
and_assoc false y z = refl

pub fold_zero : (bits : ℕ) (s : List ℕ) → eqb (fold bit_or bits s) 0 ≡ (eqb bits 0 && all_zero s)
fold_zero bits [] = sym (and_true (eqb bits 0))
  where
    and_true : (b : Bool) → (b && true) ≡ b
    and_true true = refl
    and_true false = refl
fold_zero bits (x ∷ s) = fold_zero (bit_or bits x) s ∙ ap (λ (b : Bool). b && all_zero s) (or_zero bits x) ∙ sym (and_assoc (eqb bits 0) (eqb x 0) (all_zero s))

all_zero_append : (a b : List ℕ) → all_zero (a ++ b) ≡ (all_zero a && all_zero b)
all_zero_append [] b = refl
all_zero_append (x ∷ a) b = ap (λ (z : Bool). eqb x 0 && z) (all_zero_append a b) ∙ and_assoc (eqb x 0) (all_zero a) (all_zero b)

cut : (n : ℕ) (s : List ℕ) → all_zero s ≡ (all_zero (take n s) && all_zero (drop n s))
cut n s = ap all_zero (sym (take-append-drop n s)) ∙ all_zero_append (take n s) (drop n s)

-- If the first k blocks of n bytes are all 0, what comes after them decides
blocks_zero : (n k : ℕ) (s : List ℕ) → ((i : ℕ) → i < k → all_zero (get_or (first_chunks n k s) i []) ≡ true) → all_zero (drop (k * n) s) ≡ all_zero s
blocks_zero n zero s h = let e : 0 * n ≡ 0 = omega arith in ap (λ (j : ℕ). all_zero (drop j s)) e
blocks_zero n (suc k) s h =
    let e : suc k * n ≡ n + k * n = omega arith in
    ap (λ (j : ℕ). all_zero (drop j s)) e
    ∙ ap all_zero (sym (drop-drop (k * n) n s))
    ∙ blocks_zero n k (drop n s) (λ i l. h (suc i) (omega arith))
    ∙ ap (λ (b : Bool). b && all_zero (drop n s)) (sym (h 0 (omega arith)))
    ∙ sym (cut n s)

-- If one of them is not, neither are the bytes
block_other : (n k : ℕ) (s : List ℕ) (i : ℕ) → i < k → all_zero (get_or (first_chunks n k s) i []) ≡ false → all_zero s ≡ false
block_other n zero s i h e = absurd (omega arith)
block_other n (suc k) s zero h e = cut n s ∙ ap (λ (b : Bool). b && all_zero (drop n s)) e
block_other n (suc k) s (suc i) h e = cut n s ∙ ap (λ (b : Bool). all_zero (take n s) && b) (block_other n k (drop n s) i (omega arith) e) ∙ and_false (all_zero (take n s))
  where
    and_false : (b : Bool) → (b && false) ≡ false
    and_false true = refl
    and_false false = refl

-- The same, by the test of each block
module _ (n k : ℕ) (s : List ℕ) (blocks : List (List ℕ)) (e : blocks ≡ first_chunks n k s) (l : length blocks ≡ k) where
  pub zero_blocks : AllWithin (λ b. all_zero b ≡ true) blocks 0 (length blocks) → all_zero (drop (k * n) s) ≡ all_zero s
  zero_blocks h = blocks_zero n k s (λ i m. ap (λ (bs : List (List ℕ)). all_zero (get_or bs i [])) (sym e) ∙ h i [] (omega arith) (omega (arith, l)))

  pub other_block : (i : ℕ) → i < length blocks → HoldsAt (λ b. all_zero b ≡ false) blocks i → all_zero s ≡ false
  other_block i m h = block_other n k s i (omega (arith, l)) (ap (λ (bs : List (List ℕ)). all_zero (get_or bs i [])) (sym e) ∙ h [])
