-- The digits of a number: steps, lengths, and texts that they are added to.
use Prim.Native.Nat.{ℕ, zero, suc, ◌+◌, ◌*◌, ◌/◌, ◌%◌, ◌^◌, ◌≤◌, ◌<◌}
use native.Mathlib.Nat.{div-lt_iff_lt-mul, pow-suc}
use native.Mathlib.Omega.{arith}
use mathlib.Core.Bool.{Bool, true, false, cond}
use mathlib.Core.List.{List, [], ◌∷◌, ◌++◌, append_assoc}
use mathlib.Core.Path.{◌≡◌, refl, ap, ◌∙◌}
use lib.Dec.{ltb}
use lib.ListN.{length, take, length-append}
use borrow.Author.Tests.{ltb-true, ltb-false, lt-ltb, le-ltb}
use Rattle.std.proofs.lemmas.List.{take_all}
use Rattle.fixed_text.proofs.Extended.{added_again}
use Rattle.decimal.specs.Decimal.{digit, digits_in, decimal}
use Rattle.decimal.specs.Theorems.{DecimalStep, DecimalSome, DecimalMost}

-- More steps than the number itself are enough
enough : (j k n : ℕ) → n < j → n < k → digits_in j n ≡ digits_in k n
enough zero k n a b = absurd (omega arith)
enough (suc j) zero n a b = absurd (omega arith)
enough (suc j) (suc k) n a b = go (ltb n 10) refl (λ h. enough j k (n / 10) (omega arith) (omega arith))
  where
    go : (x : Bool) → ltb n 10 ≡ x → (10 ≤ n → digits_in j (n / 10) ≡ digits_in k (n / 10))
        → cond x (digit n ∷ []) (digits_in j (n / 10) ++ (digit (n % 10) ∷ [])) ≡ cond x (digit n ∷ []) (digits_in k (n / 10) ++ (digit (n % 10) ∷ []))
    go true e i = refl
    go false e i = ap (λ (l : List ℕ). l ++ (digit (n % 10) ∷ [])) (i (ltb-false n 10 e))

pub decimal_step : DecimalStep
unfolding decimal
decimal_step n = go (ltb n 10) refl
  where
    go : (x : Bool) → ltb n 10 ≡ x
        → cond x (digit n ∷ []) (digits_in n (n / 10) ++ (digit (n % 10) ∷ [])) ≡ cond x (digit n ∷ []) (digits_in (suc (n / 10)) (n / 10) ++ (digit (n % 10) ∷ []))
    go true e = refl
    go false e =
        let h : 10 ≤ n = ltb-false n 10 e in
        ap (λ (l : List ℕ). l ++ (digit (n % 10) ∷ [])) (enough n (suc (n / 10)) (n / 10) (omega arith) (omega arith))

pub below_ten : (n : ℕ) → n < 10 → decimal n ≡ digit n ∷ []
below_ten n h = decimal_step n ∙ rw (lt-ltb n 10 h)

pub from_ten : (n : ℕ) → 10 ≤ n → decimal n ≡ decimal (n / 10) ++ (digit (n % 10) ∷ [])
from_ten n h = decimal_step n ∙ rw (le-ltb n 10 h)

pub length_from_ten : (n : ℕ) → 10 ≤ n → length (decimal n) ≡ length (decimal (n / 10)) + 1
length_from_ten n h = ap length (from_ten n h) ∙ length-append (decimal (n / 10)) (digit (n % 10) ∷ [])

pub decimal_some : DecimalSome
decimal_some n = go (ltb n 10) refl
  where
    go : (x : Bool) → ltb n 10 ≡ x → 1 ≤ length (decimal n)
    go true e = omega (arith, ap length (below_ten n (ltb-true n 10 e)))
    go false e = omega (arith, length_from_ten n (ltb-false n 10 e))

pub decimal_most : DecimalMost
decimal_most zero n p h = absurd (omega arith)
decimal_most (suc k) n p h = go (ltb n 10) refl (decimal_most k (n / 10))
  where
    go : (x : Bool) → ltb n 10 ≡ x → (1 ≤ k → n / 10 < 10 ^ k → length (decimal (n / 10)) ≤ k) → length (decimal n) ≤ suc k
    go true e i = omega (arith, ap length (below_ten n (ltb-true n 10 e)))
    go false e i =
        let t : 10 ≤ n = ltb-false n 10 e in
        let b : n < 10 ^ k * 10 = rw (← pow-suc 10 k) h in
        let d : n / 10 < 10 ^ k = (div-lt_iff_lt-mul {k = 10} {x = n} {y = 10 ^ k} (omega arith)).1 b in
        omega (arith, length_from_ten n t, i (some k t b) d)
      where
        some : (j : ℕ) → 10 ≤ n → n < 10 ^ j * 10 → 1 ≤ j
        some zero t b = absurd (omega arith)
        some (suc j) t b = omega arith

-- Numbers of 64 and of 32 bits
pub most_64 : (n : ℕ) → n < 2 ^ 64 → length (decimal n) ≤ 20
most_64 n h = decimal_most 20 n (omega arith) (omega arith)

pub most_32 : (n : ℕ) → n < 2 ^ 32 → length (decimal n) ≤ 10
most_32 n h = decimal_most 10 n (omega arith) (omega arith)

-- The digits of a number added to a text: those of its tenth, then the last one
pub front_added : (k n : ℕ) (text front : List ℕ) → 10 ≤ n → front ≡ take k (text ++ decimal (n / 10))
    → take k (front ++ (digit (n % 10) ∷ [])) ≡ take k (text ++ decimal n)
front_added k n text front h e =
    rw (e, from_ten n h) (added_again k (text ++ decimal (n / 10)) (digit (n % 10) ∷ []) ∙ rw append_assoc)

-- The only digit of a number below ten
pub digit_added : (k n : ℕ) (text : List ℕ) → n < 10 → take k (text ++ (digit (n % 10) ∷ [])) ≡ take k (text ++ decimal n)
digit_added k n text h =
    let r : n % 10 ≡ n = omega arith in
    rw (r, below_ten n h)

-- A text has room for the digits of a number of 64 bits
pub all_added : (n : ℕ) → n < 2 ^ 64 → take 20 (decimal n) ≡ decimal n
all_added n h = take_all 20 (decimal n) (most_64 n h)
