-- The rule of the two tables, from one test that is computed for every byte and every state.
use Rattle.std.proofs.Common.{◌≡◌, ℕ, zero, suc, ◌/◌, ◌%◌, ◌^◌, ◌<◌, Bool, true, ◌&&◌, eqb, ltb, List, get_or, sym, subst, ⊎_elim, le_of_suc-le-suc, eq-or-lt_of_le, arith, ltb-true, eqb-true}
use mathlib.Core.Bool.{and-eq-true_iff}
use Rattle.text.specs.Walk.{State, step}
use Rattle.text.specs.Private.{code, Encodes}
use Rattle.text.proofs.Codes.{numbered, numbered_code, number_low}

-- The test passes for every number below n
abbrev pub below : (ℕ → Bool) → ℕ → Bool
below test zero = true
below test (suc n) = test n && below test n

below_at : (test : ℕ → Bool) (n : ℕ) → below test n ≡ true → (k : ℕ) → k < n → test k ≡ true
below_at test zero all k h = absurd (omega arith)
below_at test (suc n) all k h =
    let both = (and-eq-true_iff (test n) (below test n)).0 all in
    ⊎_elim (λ e. subst (λ (m : ℕ). test m ≡ true) (sym e) both.0) (λ l. below_at test n both.1 k l)
    (eq-or-lt_of_le (le_of_suc-le-suc h))

-- The row of the class k leads from the state q where the byte b leads
abbrev pub leads : List ℕ → ℕ → ℕ → State → Bool
leads rows b k q = eqb (get_or rows k 0 / 2 ^ code q % 64) (code (step q b))

-- The class k is one of the twelve, and its row is right for the byte b in each of the nine states
unfoldable pub right : List ℕ → ℕ → ℕ → Bool
right rows b k = ltb k 12 && below (λ n. leads rows b k (numbered n)) 9

pub encodes : (classes rows : List ℕ) → below (λ b. right rows b (get_or classes b 0)) 256 ≡ true → Encodes classes rows
unfolding right
encodes classes rows all = record { small = λ b h. ltb-true (get_or classes b 0) 12 (at b h).0; right = λ q b h. eqb-true _ _ (by_state b h q) }
  where
    at : (b : ℕ) → b < 256 → (ltb (get_or classes b 0) 12 ≡ true) × (below (λ n. leads rows b (get_or classes b 0) (numbered n)) 9 ≡ true)
    at b h = (and-eq-true_iff (ltb (get_or classes b 0) 12) (below (λ n. leads rows b (get_or classes b 0) (numbered n)) 9)).0 (below_at (λ b. right rows b (get_or classes b 0)) 256 all b h)

    by_state : (b : ℕ) → b < 256 → (q : State) → leads rows b (get_or classes b 0) q ≡ true
    by_state b h q = subst (λ (p : State). leads rows b (get_or classes b 0) p ≡ true) (numbered_code q) (below_at (λ n. leads rows b (get_or classes b 0) (numbered n)) 9 (at b h).1 (code q / 6) (number_low q))
