-- Bytes added to a text that has only 0 behind it, as far as there is room.
use Rattle.std.proofs.Common.{slice_set, ◌≡◌, refl, ℕ, zero, suc, ◌+◌, ◌-◌, ◌≤◌, ◌∙◌, List, [], ◌∷◌, ◌++◌, ap, arith, drop, replicate, take}
use Rattle.std.proofs.lemmas.List.{drop-drop, drop-replicate, drop-set-lt}

-- Behind a byte added there is still only 0
pub zeros_after : (n len i : ℕ) (bytes : List ℕ) (byte : ℕ) → i ≤ len → drop len bytes ≡ replicate (n - len) 0
    → drop (len + 1) (slice_set bytes i byte) ≡ replicate (n - (len + 1)) 0
zeros_after n len i bytes byte h z =
    let d : drop (len + 1) (slice_set bytes i byte) ≡ drop (len + 1) bytes = drop-set-lt (len + 1) bytes i byte (omega arith) in
    let e : n - len - 1 ≡ n - (len + 1) = omega arith in
    rw (d, ← drop-drop 1 len bytes, z, drop-replicate {X = ℕ} 1 (n - len) 0, e)

-- Bytes added to a text that was already cut to its room
pub added_again : (n : ℕ) (text more : List ℕ) → take n (take n text ++ more) ≡ take n (text ++ more)
added_again zero text more = refl
added_again (suc n) [] more = refl
added_again (suc n) (b ∷ text) more = ap (λ (l : List ℕ). b ∷ l) (added_again n text more)

-- Bytes added to a text that is known as the start of a longer one
pub added_after : (n : ℕ) {text after : List ℕ} (whole more : List ℕ) → text ≡ take n whole → after ≡ take n (text ++ more) → after ≡ take n (whole ++ more)
added_after n whole more t a = a ∙ rw t (added_again n whole more)
