-- Tables of tags: the verdict on a tag, and what follows it.
use Prim.Native.Nat.{ℕ, zero, suc, ◌+◌, ◌≤◌, ◌<◌}
use native.Mathlib.Omega.{arith}
use mathlib.Core.Bool.{Bool, true, false, cond}
use mathlib.Core.List.{[], ◌∷◌, ◌++◌}
use mathlib.Core.Logic.{◌≢◌}
use mathlib.Core.Path.{◌≡◌, refl}
use lib.Dec.{eqb}
use borrow.Author.Tests.{ne_eqb, eqb-true, eqb-false}
use Rattle.layout.specs.Layout.{Fault, fine, wrong, nothing}
use Rattle.layout.specs.Forms.{Tags, ◌⇒◌, known, follows}

-- n is not in the table
abbrev pub Outside : Tags → ℕ → Type 0
Outside [] n = Unit {0}
Outside (row ∷ rows) n = (n ≢ row.0) × Outside rows n

pub known_outside : (f : Fault) (rows : Tags) (n : ℕ) → Outside rows n → known f rows n ≡ wrong f
known_outside f [] n h = refl
known_outside f (row ∷ rows) n h = rw (ne_eqb n row.0 h.0) (known_outside f rows n h.1)

pub follows_outside : (rows : Tags) (n : ℕ) → Outside rows n → follows rows n ≡ nothing
follows_outside [] n h = refl
follows_outside (row ∷ rows) n h = rw (ne_eqb n row.0 h.0) (follows_outside rows n h.1)

-- n tags from a on, with nothing after any of them
abbrev pub bare : ℕ → ℕ → Tags
bare a zero = []
bare a (suc n) = a ⇒ nothing ∷ bare (suc a) n

-- A tag with nothing after it
pub bare_in : (f : Fault) (a k : ℕ) (rows : Tags) (n : ℕ) → a ≤ n → n < a + k → (known f (bare a k ++ rows) n ≡ fine) × (follows (bare a k ++ rows) n ≡ nothing)
bare_in f a zero rows n h l = absurd (omega arith)
bare_in f a (suc k) rows n h l = go (eqb n a) refl (λ e. bare_in f (suc a) k rows n (omega arith) (omega arith))
  where
    go : (x : Bool) → eqb n a ≡ x → ((n ≡ a → ⊥) → (known f (bare (suc a) k ++ rows) n ≡ fine) × (follows (bare (suc a) k ++ rows) n ≡ nothing))
        → (cond x fine (known f (bare (suc a) k ++ rows) n) ≡ fine) × (cond x nothing (follows (bare (suc a) k ++ rows) n) ≡ nothing)
    go true e i = (refl, refl)
    go false e i = i (eqb-false n a e)

-- A number of at least a and below a + 2 is one of two: what holds in both cases holds
pub of_two : {G : Type 0} (a n : ℕ) → a ≤ n → n < a + 2 → (n ≡ a → G) → (n ≡ a + 1 → G) → G
of_two {G = G} a n h l f g = go (eqb n a) refl
  where
    go : (x : Bool) → eqb n a ≡ x → G
    go true e = f (eqb-true n a e)
    go false e = g (omega (arith, eqb-false n a e))
