-- Bytes are stored one after the other if they fit; otherwise nothing is stored.
use Prim.Native.Nat.{ℕ, suc, ◌+◌, ◌-◌, ◌≤◌, ◌<◌}
use native.Mathlib.Numerals.{add-one}
use native.Mathlib.Omega.{arith}
use mathlib.Core.Bool.{Bool, true, false}
use mathlib.Core.List.{List, [], ◌∷◌, ◌++◌, append_assoc, append-nil}
use mathlib.Core.Path.{◌≡◌, refl, sym, ap, ◌∙◌}
use lib.Dec.{leb}
use lib.ListN.{length, take, drop, set, length-append, length-take, length-drop}
use lib.Seq.{paste-zero, append_snoc, set_split, length-take-le, take_at, drop-append-add, drop-drop}
use borrow.Author.Tests.{le-leb, lt-leb, leb-true, leb-false}
use Rattle.paste.specs.Pasted.{pasted}

module _ (out : List ℕ) (at : ℕ) (bytes : List ℕ) where
  pub pasted_fits : at + length bytes ≤ length out → pasted out at bytes ≡ take at out ++ bytes ++ drop (at + length bytes) out
  unfolding pasted
  pasted_fits h = rw (le-leb (at + length bytes) (length out) h)

  pub pasted_kept : length out < at + length bytes → pasted out at bytes ≡ out
  unfolding pasted
  pasted_kept h = rw (lt-leb (at + length bytes) (length out) h)

  pub pasted_length : length (pasted out at bytes) ≡ length out
  pasted_length = go (leb (at + length bytes) (length out)) refl
    where
      go : (b : Bool) → leb (at + length bytes) (length out) ≡ b → length (pasted out at bytes) ≡ length out
      go true e = let h : at + length bytes ≤ length out = leb-true _ _ e in rw (pasted_fits h) (simp (length-append, length-take, length-drop) (omega arith))
      go false e = rw (pasted_kept (omega (arith, leb-false (at + length bytes) (length out) e)))

-- No byte stored
pub pasted_none : (out : List ℕ) (at : ℕ) → at ≤ length out → pasted out at [] ≡ out
pasted_none out at h = pasted_fits out at [] (omega arith) ∙ sym (paste-zero out at [])

-- One byte stored
pub set_pasted : (out : List ℕ) (at x : ℕ) → at < length out → set out at x ≡ pasted out at (x ∷ [])
set_pasted out at x h = set_split out at x h ∙ sym (pasted_fits out at (x ∷ []) (omega arith) ∙ rw add-one (append_snoc (take at out) x (drop (suc at) out)))

-- What is before, up to the end of, and after the stored bytes
module _ (out : List ℕ) (at : ℕ) (bytes : List ℕ) (h : at + length bytes ≤ length out) where
  head_length : length (take at out ++ bytes) ≡ at + length bytes
  head_length = simp (length-append, length-take) (omega arith)

  take_before : take at (pasted out at bytes) ≡ take at out
  take_before =
      rw (pasted_fits out at bytes h, append_assoc)
      (take_at (take at out) (bytes ++ drop (at + length bytes) out) at (length-take-le at out (omega arith)))

  take_with : take (at + length bytes) (pasted out at bytes) ≡ take at out ++ bytes
  take_with = rw (pasted_fits out at bytes h) (take_at _ _ _ head_length)

  drop_after : (n : ℕ) → drop (at + length bytes + n) (pasted out at bytes) ≡ drop (at + length bytes + n) out
  drop_after n =
      rw (pasted_fits out at bytes h)
      (ap (λ (k : ℕ). drop (k + n) (take at out ++ bytes ++ drop (at + length bytes) out)) (sym head_length)
      ∙ drop-append-add (take at out ++ bytes) (drop (at + length bytes) out) n
      ∙ drop-drop n (at + length bytes) out)

module _ (out : List ℕ) (at : ℕ) where
  -- Bytes stored right after others: as if stored all at once
  pub pasted_append : (a b : List ℕ) → at + length a + length b ≤ length out → pasted (pasted out at a) (at + length a) b ≡ pasted out at (a ++ b)
  pasted_append a b h =
      let e : at + length (a ++ b) ≡ at + length a + length b = simp length-append (omega arith) in
      pasted_fits _ _ b (omega (arith, pasted_length out at a))
      ∙ rw (take_with out at a (omega arith), drop_after out at a (omega arith) (length b), pasted_fits out at (a ++ b) (omega arith), e, append_assoc (take at out) a b)

  -- Bytes stored over at most as many others: as if those had not been stored
  pub pasted_over : (a b : List ℕ) → length a ≤ length b → at + length b ≤ length out → pasted (pasted out at a) at b ≡ pasted out at b
  pasted_over a b k h =
      let e : at + length b ≡ at + length a + (length b - length a) = omega arith in
      pasted_fits _ at b (omega (arith, pasted_length out at a))
      ∙ rw (take_before out at a (omega arith), pasted_fits out at b h, e, drop_after out at a (omega arith))

  -- One byte stored right after others
  set_after : {o : List ℕ} (a : List ℕ) (x : ℕ) → at + length a < length out → o ≡ pasted out at a → set o (at + length a) x ≡ pasted out at (a ++ x ∷ [])
  set_after a x h e = rw e (set_pasted _ _ x (omega (arith, pasted_length out at a)) ∙ pasted_append a (x ∷ []) (omega arith))

-- Bytes stored one after the other, the first of them k after a place. For a list of known length this unfolds to the stores
-- themselves
abbrev pub stored : List ℕ → ℕ → ℕ → List ℕ → List ℕ
stored out at k [] = out
stored out at k (x ∷ xs) = stored (set out (at + k) x) at (suc k) xs

module _ (out : List ℕ) (at : ℕ) where
  stored_after : {o : List ℕ} (a b : List ℕ) (k : ℕ) → k ≡ length a → at + k + length b ≤ length out → o ≡ pasted out at a → stored o at k b ≡ pasted out at (a ++ b)
  stored_after a [] k e h p = rw append-nil p
  stored_after {o = o} a (x ∷ b) k e h p =
      rw (← append_snoc a x b)
      (stored_after {o = set o (at + k) x} (a ++ x ∷ []) b (suc k) (simp length-append (omega arith)) (omega arith) (rw e (set_after out at a x (omega arith) p)))

  -- A first byte stored, then others after it
  pub stored_pasted : (x : ℕ) (b : List ℕ) → at + suc (length b) ≤ length out → stored (set out at x) at 1 b ≡ pasted out at (x ∷ b)
  stored_pasted x b h = stored_after (x ∷ []) b 1 refl (omega arith) (set_pasted out at x (omega arith))
