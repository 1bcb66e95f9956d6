-- The bytes of a text, stored part by part.
use Prim.Native.Nat.{ℕ, zero, suc, ◌+◌, ◌-◌, ◌≤◌, ◌<◌}
use native.Mathlib.Omega.{arith}
use mathlib.Core.List.{List, [], ◌∷◌, ◌++◌}
use mathlib.Core.Path.{◌≡◌, refl, sym, ap, ◌∙◌}
use lib.ListN.{length, get_or, take, drop, set, take-append-drop}
use lib.Seq.{slice, slice_empty, slice-cons, length-slice, take-take, take-length, length-take-le, drop-append-le}
use Rattle.paste.specs.Pasted.{pasted}
use Rattle.paste.specs.Private.{copied}
use Rattle.paste.proofs.Pasted.{pasted_none, pasted_length, pasted_append, pasted_over, set_pasted, stored, stored_pasted}

-- Two adjacent parts make one
slice_join : (l : List ℕ) (a i e : ℕ) → a ≤ i → i ≤ e → e ≤ length l → slice a i l ++ slice i e l ≡ slice a e l
slice_join l a i e h k m =
    sym (drop-append-le a (take i l) (slice i e l) (omega (arith, length-take-le i l (omega arith))))
    ∙ ap (drop a) (rw (← take-take i e l k) (take-append-drop i (take e l)))

-- n bytes read one after the other, the first of them k after a place
abbrev pub reads : List ℕ → ℕ → ℕ → ℕ → List ℕ
reads l i k zero = []
reads l i k (suc n) = get_or l (i + k) 0 ∷ reads l i (suc k) n

reads_slice : (l : List ℕ) (i k n e : ℕ) → i + k + n ≡ e → e ≤ length l → reads l i k n ≡ slice (i + k) e l
reads_slice l i k zero e p h = let q : e ≡ i + k = omega arith in rw (q, slice_empty)
reads_slice l i k (suc n) e p h = let q : i + suc k ≡ suc (i + k) = omega arith in rw (slice-cons (i + k) e l 0 (omega arith) h, ← q, reads_slice l i (suc k) n e (omega arith) h)

-- The same, with the first of them at the place itself
pub read_slice : (l : List ℕ) (i n : ℕ) → i + suc n ≤ length l → get_or l i 0 ∷ reads l i 1 n ≡ slice i (i + suc n) l
read_slice l i n h =
    let p : i + 1 ≡ suc i = omega arith in
    rw (slice-cons i (i + suc n) l 0 (omega arith) h, ← p, reads_slice l i 1 n (i + suc n) (omega arith) h)

-- All the bytes of an array, stored one after the other
pub array_pasted : (out : List ℕ) (to : ℕ) (b : List ℕ) (n : ℕ) → length b ≡ suc n → to + suc n ≤ length out → stored (set out to (get_or b 0 0)) to 1 (reads b 0 1 n) ≡ pasted out to b
array_pasted out to b n l h =
    let e : 0 + suc n ≡ length b = omega arith in
    let q : get_or b 0 0 ∷ reads b 0 1 n ≡ b = read_slice b 0 n (omega arith) ∙ rw (e, take-length) in
    stored_pasted out to _ _ (omega (arith, ap length q)) ∙ ap (pasted out to) q

module _ (out : List ℕ) (at : ℕ) (bytes : List ℕ) where
  pub copied_length : (a e : ℕ) → length (copied out at bytes a e) ≡ length out
  unfolding copied
  copied_length a e = pasted_length _ _ _

  -- The n bytes from a on, read and then stored
  pub part_copied : {o b : List ℕ} (a n e : ℕ) → a + n ≡ e → b ≡ slice a (a + n) bytes → o ≡ pasted out (at + a) b → o ≡ copied out at bytes a e
  unfolding copied
  part_copied a n e h q p = p ∙ rw (q, h)

  pub copied_all : {o : List ℕ} (e : ℕ) → e ≡ length bytes → o ≡ copied out at bytes 0 e → o ≡ pasted out at bytes
  unfolding copied
  copied_all e h p = let k : at + 0 ≡ at = omega arith in p ∙ rw (h, k, take-length)

module _ (out : List ℕ) (at : ℕ) (bytes : List ℕ) (fits : at + length bytes ≤ length out) where
  pub copied_none : (a : ℕ) → a ≤ length bytes → out ≡ copied out at bytes a a
  unfolding copied
  copied_none a h = rw slice_empty (sym (pasted_none out (at + a) (omega arith)))

  -- One byte
  pub byte_copied : (i : ℕ) → i < length bytes → set out (at + i) (get_or bytes i 0) ≡ copied out at bytes i (i + 1)
  unfolding copied
  byte_copied i h = set_pasted out (at + i) _ (omega arith) ∙ ap (pasted out (at + i)) (read_slice bytes i 0 (omega arith))

  -- The bytes up to i are stored, then those up to e
  pub copied_on : {o o₁ : List ℕ} (a i e : ℕ) → a ≤ i → i ≤ e → e ≤ length bytes → o ≡ copied out at bytes a i → o₁ ≡ copied o at bytes i e → o₁ ≡ copied out at bytes a e
  unfolding copied
  copied_on a i e h k m p q =
      let f : length (slice a i bytes) ≡ i - a = length-slice a i bytes (omega arith) in
      let g : at + i ≡ at + a + length (slice a i bytes) = omega arith in
      q ∙ rw (p, g) (pasted_append out (at + a) (slice a i bytes) (slice i e bytes) (omega (arith, length-slice i e bytes m)))
      ∙ ap (pasted out (at + a)) (slice_join bytes a i e h k m)

  -- The bytes from a up to m are stored, then those from a up to e, which are at least as many
  copied_over : {o o₁ : List ℕ} (a m e : ℕ) → a ≤ m → m ≤ e → e ≤ length bytes → o ≡ copied out at bytes a m → o₁ ≡ copied o at bytes a e → o₁ ≡ copied out at bytes a e
  unfolding copied
  copied_over a m e h k l p q =
      let f : length (slice a m bytes) ≡ m - a = length-slice a m bytes (omega arith) in
      let g : length (slice a e bytes) ≡ e - a = length-slice a e bytes l in
      q ∙ rw p (pasted_over out (at + a) (slice a m bytes) (slice a e bytes) (omega arith) (omega arith))

-- The first m bytes are stored, then those from a on, some of them again
pub copied_ends : (out : List ℕ) (at : ℕ) (bytes : List ℕ) → at + length bytes ≤ length out → {o o₁ : List ℕ} (m a e : ℕ) → a ≤ m → m ≤ e → e ≡ length bytes
    → o ≡ copied out at bytes 0 m → o₁ ≡ copied o at bytes a e → o₁ ≡ pasted out at bytes
copied_ends out at bytes f m a e h k l p q =
    let twice = copied_on out at bytes f 0 a m (omega arith) h (omega arith) refl refl in
    copied_all out at bytes e l
    (copied_on out at bytes f 0 a e (omega arith) (omega arith) (omega arith) refl
    (copied_over _ at bytes (omega (arith, copied_length out at bytes 0 a)) a m e h k (omega arith) (p ∙ sym twice) q))
