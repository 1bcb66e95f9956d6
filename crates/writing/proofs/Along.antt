-- Properties of each leaf with its row.
use Prim.Native.Nat.{ℕ, ◌+◌, ◌≤◌, ◌<◌}
use native.Mathlib.Omega.{arith}
use mathlib.Core.Bool.{Bool, true, false}
use mathlib.Core.List.{List, [], ◌∷◌, ◌++◌}
use mathlib.Core.Path.{◌≡◌, refl, sym, subst, ◌∙◌}
use lib.Dec.{eqb}
use lib.ListN.{length}
use borrow.Author.Tests.{eqb-true, eqb-false}
use Rattle.layout.specs.Layout.{Leaf}
use Rattle.layout.proofs.Each.{Each}
use Rattle.writing.specs.Refusals.{Along}

module _ (Q : ℕ → Leaf → Type 0) where
  pub along_join : (i m : ℕ) (a b : List Leaf) → m ≡ i + length a → Along Q i a → Along Q m b → Along Q i (a ++ b)
  along_join i m [] b e g h = subst (λ (k : ℕ). Along Q k b) (e ∙ omega arith) h
  along_join i m (x ∷ a) b e g h = (g.0, along_join (i + 1) m a b (e ∙ omega arith) g.1 h)

  pub along_part : (i : ℕ) (a b : List Leaf) → Along Q i (a ++ b) → Along Q i a × Along Q (i + length a) b
  along_part i [] b g = let e : i ≡ i + 0 = omega arith in (tt, subst (λ (k : ℕ). Along Q k b) e g)
  along_part i (x ∷ a) b g =
      let (h, k) = along_part (i + 1) a b g.1 in
      let e : i + 1 + length a ≡ i + length (x ∷ a) = omega arith in
      ((g.0, h), subst (λ (j : ℕ). Along Q j b) e k)

  -- Hence of each row
  pub along_at : (P : ℕ → Type 0) → ((i : ℕ) (x : Leaf) → Q i x → P i) → (i : ℕ) (ls : List Leaf) → Along Q i ls → (k : ℕ) → i ≤ k → k < i + length ls → P k
  along_at P f i [] h k a b = absurd (omega arith)
  along_at P f i (x ∷ ls) h k a b = go (eqb k i) refl (λ c. along_at P f (i + 1) ls h.1 k c (omega arith))
    where
      go : (b : Bool) → eqb k i ≡ b → (i + 1 ≤ k → P k) → P k
      go true e c = subst P (sym (eqb-true k i e)) (f i x h.0)
      go false e c = c (let q = eqb-false k i e in omega arith)

  -- And of each leaf
  pub along_each : (G : Leaf → Type 0) → ((i : ℕ) (x : Leaf) → Q i x → G x) → (i : ℕ) (ls : List Leaf) → Along Q i ls → Each G ls
  along_each G f i [] h = tt
  along_each G f i (x ∷ ls) h = (f i x h.0, along_each G f (i + 1) ls h.1)

  pub along_map : (R : ℕ → Leaf → Type 0) (i : ℕ) (ls : List Leaf) → ((k : ℕ) (x : Leaf) → i ≤ k → k < i + length ls → Q k x → R k x) → Along Q i ls → Along R i ls
  along_map R i [] f h = tt
  along_map R i (x ∷ ls) f h = (f i x (omega arith) (omega arith) h.0, along_map R (i + 1) ls (λ k y a b. f k y (omega arith) (omega arith)) h.1)

  pub along_both : (R : ℕ → Leaf → Type 0) (i : ℕ) (ls : List Leaf) → Along Q i ls → Along R i ls → Along (λ k x. Q k x × R k x) i ls
  along_both R i [] g h = tt
  along_both R i (x ∷ ls) g h = ((g.0, h.0), along_both R (i + 1) ls g.1 h.1)

  pub along_also : (G : Leaf → Type 0) (i : ℕ) (ls : List Leaf) → Along Q i ls → Each G ls → Along (λ k x. Q k x × G x) i ls
  along_also G i [] g h = tt
  along_also G i (x ∷ ls) g h = ((g.0, h.0), along_also G (i + 1) ls g.1 h.1)
