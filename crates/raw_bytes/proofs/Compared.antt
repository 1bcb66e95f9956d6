-- Slices with the same bytes are equal.
use Prim.Native.Nat.{ℕ}
use native.Mathlib.Omega.{arith}
use mathlib.Core.Bool.{true, false, and-eq-true_iff}
use mathlib.Core.List.{List, [], ◌∷◌}
use mathlib.Core.Path.{◌≡◌, refl, ap}
use lib.ListN.{length}
use borrow.Author.Tests.{eq-eqb, eqb-true}
use Rattle.layout.proofs.BadReads.{not_true}
use Rattle.raw_bytes.specs.Bytes.{same}

pub same_sound : (x y : List ℕ) → same x y ≡ true → x ≡ y
same_sound [] [] e = refl
same_sound [] (b ∷ y) e = let z : ◌≡◌ {A = ℕ} 0 1 = cc in absurd (omega arith)
same_sound (a ∷ x) [] e = let z : ◌≡◌ {A = ℕ} 0 1 = cc in absurd (omega arith)
same_sound (a ∷ x) (b ∷ y) e =
    let (p, q) = (and-eq-true_iff _ _).0 e in
    rw (eqb-true a b p, same_sound x y q)

pub same_refl : (t : List ℕ) → same t t ≡ true
same_refl [] = refl
same_refl (x ∷ t) = rw (eq-eqb x x refl, same_refl t)

pub same_not : (a b : List ℕ) → (length a ≡ length b → ⊥) → same a b ≡ false
same_not a b h = not_true (same a b) (λ e. h (ap length (same_sound a b e)))
