-- Bytes stored one after the other, and all of them from the start on.
use Rattle.std.proofs.Common.{◌≡◌, sym, ap, ◌∙◌, ℕ, suc, ◌+◌, ◌-◌, List, [], ◌∷◌, ◌++◌, arith, drop, length, length-append, min, take, zero-add}
use Rattle.std.proofs.lemmas.List.{drop_all, drop_min, length-take, take-append-drop, take_min}
use Rattle.std.proofs.lemmas.Slice.{drop-put_mid, take-put_mid}
use Rattle.std.proofs.Math.Seq.{take-append-add, take-nil}
use Rattle.listing.specs.Listing.{at_start}
use Rattle.listing.specs.Private.{stored}
use borrow.Rule.Slice.PartMut.{put_mid}

-- The first bytes
pub first_stored : (bytes out : List ℕ) → stored 0 bytes out ≡ at_start bytes out
first_stored bytes out = rw zero-add

-- The bytes after those before
pub next_stored : (before bytes out : List ℕ) → stored (length before) bytes (at_start before out) ≡ at_start (before ++ bytes) out
next_stored [] bytes out = simp (take-nil {A = ℕ}, zero-add)
next_stored (x ∷ before) bytes [] = drop_all _ [] (omega arith)
next_stored (x ∷ before) bytes (y ∷ out) =
    let e : suc (length before) + length bytes ≡ suc (length before + length bytes) = omega arith in
    rw e (ap (λ (l : List ℕ). x ∷ l) (next_stored before bytes out))

-- How the code stores them
module _ (at start k : ℕ) (bytes out : List ℕ) (s : start ≡ min at (length out)) (e : k ≡ min (length bytes) (length out - start)) where
  pub put_stored : put_mid start (start + k - start) out (take k bytes) ≡ stored at bytes out
  put_stored =
      let m = put_mid start (start + k - start) out (take k bytes) in
      let l : length (take k bytes) ≡ k = length-take k bytes ∙ omega arith in
      let t : take start out ≡ take at out = rw s (take_min at out) in
      let lt : length (take at out) + (length out - start) ≡ length out = omega (arith, length-take at out) in
      let a : take (start + k) m ≡ take start out ++ take k bytes = take-put_mid start _ out (take k bytes) _ (omega arith) (omega arith) in
      let d : drop (start + k) m ≡ drop (start + k) out = drop-put_mid start _ out (take k bytes) _ (omega arith) (omega arith) (omega arith) in
      let q : k ≡ min (length out - start) (length bytes) = omega arith in
      let b : take k bytes ≡ take (length out - start) bytes = rw q (take_min (length out - start) bytes) in
      let f : take at out ++ take (length out - start) bytes ≡ take (length out) (take at out ++ bytes) =
      sym (take-append-add (take at out) bytes (length out - start)) ∙ ap (λ (i : ℕ). take i (take at out ++ bytes)) lt in
      let r : start + k ≡ min (at + length bytes) (length out) = omega arith in
      let g : drop (start + k) out ≡ drop (at + length bytes) out = rw r (drop_min (at + length bytes) out) in
      sym (take-append-drop (start + k) m) ∙ rw (a, d, t, b, f, g)

-- A text at the start of a buffer
pub record Shown (text out after : List ℕ) (end : ℕ) : Type 0 where
  pub size : end ≡ length text
  pub holds : after ≡ at_start text out

-- It is stored first
pub put_first : (text bytes out after : List ℕ) (r : ℕ) → bytes ≡ text → (r ≡ 0 + length bytes) × (after ≡ stored 0 bytes out) → Shown text out after r
put_first text bytes out after r e p = record { size = p.0 ∙ rw (zero-add, e); holds = p.1 ∙ first_stored bytes out ∙ rw e }

-- Or after the text before
pub put_next : {before out now : List ℕ} {at : ℕ} (text bytes after : List ℕ) (r : ℕ) → bytes ≡ text → Shown before out now at
    → (r ≡ at + length bytes) × (after ≡ stored at bytes now) → Shown (before ++ text) out after r
put_next {before} {out} text bytes after r e b p =
    record { size = p.0 ∙ rw (b.size, e) (sym (length-append before text)); holds = p.1 ∙ rw (b.size, b.holds, e) (next_stored before text out) }
