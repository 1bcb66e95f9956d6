-- The reading from bytes: it accepts exactly what a proper value derives, and the value is determined by its bytes.
use Prim.Native.Nat.{ℕ, suc, ◌+◌, ◌-◌, ◌%◌, ◌≤◌, ◌<◌}
use native.Mathlib.Nat.{add-zero, add-suc}
use native.Mathlib.Numerals.{add-one}
use native.Mathlib.Omega.{arith}
use mathlib.Core.Bool.{true}
use mathlib.Core.List.{List, [], ◌∷◌, ◌++◌, append_assoc, append-nil, append_cancel_left}
use mathlib.Core.Path.{◌≡◌, refl, sym, ap, ◌∙◌}
use lib.ListN.{length, get_or, take, drop, length-append, length-drop, take-append-drop}
use lib.Seq.{drop-cons, drop_at, get_or-drop, drop-drop, drop-append_seam, take-add, take-append_seam, length-take-le}
use borrow.Author.Tests.{ltb-true, leb-true, lt-ltb, le-leb}
use Rattle.layout.specs.Layout.{Sort, Kind, Tag, Flag, Number, Count, Leaf, plain, string, Layout, Value, leaves, Fits, Proper}
use Rattle.layout.specs.Written.{four, bytes_of, bytes, Stand}
use Rattle.layout.specs.Reading.{Outcome, ok, refuse, ◌>>=◌, utf8, enough, number_at, four_at, plain_at, text_at, in_bytes, read_value, read}
use Rattle.layout.specs.Theorems.{Bytes, ReadExact, ValueUnique}
use Rattle.layout.proofs.Walk.{All, given, all_bind, all_ok, all_need, Sound, Complete, sound, complete}
use Rattle.layout.proofs.Numbers.{four_number, number_four}
use Rattle.text.proofs.Exact.{utf8_exact}

-- The leaves ls are in s, from one place up to another
record Leaves (s : List ℕ) (at : ℕ) (ls : List Leaf) (end : ℕ) : Type 0 where
  there : drop at s ≡ bytes_of ls ++ drop end s
  ends : end ≡ at + length (bytes_of ls)

pub bytes_of_append : (a b : List Leaf) → bytes_of (a ++ b) ≡ bytes_of a ++ bytes_of b
bytes_of_append [] b = refl
bytes_of_append (x ∷ a) b = rw (bytes_of_append a b, append_assoc)

-- The rest after what is at a place
pub rest_after : (s : List ℕ) (at : ℕ) (x y : List ℕ) → drop at s ≡ x ++ y → drop (at + length x) s ≡ y
rest_after s at x y e = rw (← drop-drop (length x) at s, e, drop-append_seam)

-- A part, split at its end
pub drop_take : (l : List ℕ) (i n : ℕ) → i ≤ n → i ≤ length l → drop i (take n l) ≡ take (n - i) (drop i l)
drop_take l i n h k =
    let e : n ≡ i + (n - i) = omega arith in
    ap (λ (m : ℕ). drop i (take m l)) e ∙ ap (drop i) (take-add i (n - i) l) ∙ drop_at (take i l) (take (n - i) (drop i l)) i (length-take-le i l k)

inside : (s : List ℕ) (at : ℕ) (r : List ℕ) → drop at s ≡ r → (i : ℕ) → i < length r → at + i < length s
inside s at r e i h = omega (arith, ap length e, length-drop at s)

found : (s : List ℕ) (at : ℕ) (r : List ℕ) → drop at s ≡ r → (i : ℕ) → get_or s (at + i) 0 ≡ get_or r i 0
found s at r e i = sym (get_or-drop at s i 0) ∙ ap (λ (l : List ℕ). get_or l i 0) e

pub byte_there : (s : List ℕ) (at : ℕ) → at + 1 ≤ length s → drop at s ≡ get_or s at 0 ∷ drop (at + 1) s
byte_there s at h = rw (add-one, drop-cons s at 0 (omega arith))

next : (s : List ℕ) (at i : ℕ) → at + i < length s → drop (at + i) s ≡ get_or s (at + i) 0 ∷ drop (at + suc i) s
next s at i h = rw (add-suc, drop-cons s (at + i) 0)

four_there : (s : List ℕ) (at : ℕ) → at + 4 ≤ length s → drop at s ≡ get_or s at 0 ∷ get_or s (at + 1) 0 ∷ get_or s (at + 2) 0 ∷ get_or s (at + 3) 0 ∷ drop (at + 4) s
four_there s at h = rw (byte_there s at (omega arith), next s at 1 (omega arith), next s at 2 (omega arith), next s at 3 (omega arith))

pub part_there : (s : List ℕ) (at n : ℕ) → at + n ≤ length s → (length (take n (drop at s)) ≡ n) × (drop at s ≡ take n (drop at s) ++ drop (at + n) s)
part_there s at n h = (length-take-le n (drop at s) (omega (arith, length-drop at s)), sym (rw (← drop-drop n at s) (take-append-drop n (drop at s))))

module _ (s : List ℕ) where
  none_begin : (at : ℕ) → Leaves s at [] at
  none_begin at = record { there = refl; ends = omega arith }

  none_end : {at end : ℕ} → Leaves s at [] end → at ≡ end
  none_end h = omega (arith, h.ends)

  join : {at m end : ℕ} (a b : List Leaf) → Leaves s at a m → Leaves s m b end → Leaves s at (a ++ b) end
  join {at} {m} {end} a b h k =
      record { there = rw (bytes_of_append a b, append_assoc, h.there, k.there); ends = rw bytes_of_append (omega (arith, h.ends, k.ends, length-append (bytes_of a) (bytes_of b))) }

  part : {at end : ℕ} (a b : List Leaf) → Leaves s at (a ++ b) end → (m : ℕ) × Leaves s at a m × Leaves s m b end
  part {at} {end} a b h =
      let e : drop at s ≡ bytes_of a ++ (bytes_of b ++ drop end s) = rw (bytes_of_append a b, append_assoc) at h.there in
      let m : drop (at + length (bytes_of a)) s ≡ bytes_of b ++ drop end s = rest_after s at (bytes_of a) _ e in
      let n : end ≡ at + length (bytes_of a ++ bytes_of b) = rw (bytes_of_append a b) at h.ends in
      (at + length (bytes_of a), record { there = rw m e; ends = refl }, record { there = m; ends = omega (arith, length-append (bytes_of a) (bytes_of b)) })

  text_stands : (t : List ℕ) (at end : ℕ) → drop at s ≡ four (length t) ++ (t ++ drop end s) → end ≡ at + 4 + length t → Leaves s at (string t ∷ []) end
  text_stands t at end e k = record { there = rw (append-nil t) e; ends = rw (append-nil t) (omega arith) }

  text_stood : (t : List ℕ) (at end : ℕ) → Leaves s at (string t ∷ []) end → (drop at s ≡ four (length t) ++ (t ++ drop end s)) × (end ≡ at + 4 + length t)
  text_stood t at end h = (rw (append-nil t) at h.there, omega (arith, rw (append-nil t) at h.ends))

  pub four_sound : Bytes s → (at : ℕ) → at + 4 ≤ length s → drop at s ≡ four (number_at s at) ++ drop (at + 4) s
  four_sound u at h = four_there s at h ∙ ap (λ (l : List ℕ). l ++ drop (at + 4) s) (sym (four_number (get_or s at 0) (get_or s (at + 1) 0) (get_or s (at + 2) 0) (get_or s (at + 3) 0) (u at (omega arith)) (u (at + 1) (omega arith)) (u (at + 2) (omega arith)) (u (at + 3) (omega arith))))

  pub number_small : Bytes s → (at : ℕ) → at + 4 ≤ length s → number_at s at < 4294967296
  number_small u at h = omega (arith, u at (omega arith), u (at + 1) (omega arith), u (at + 2) (omega arith), u (at + 3) (omega arith))

  plain_sound : Bytes s → (srt : Sort) (at : ℕ) → All (λ n end. Fits (plain srt n) × Leaves s at (plain srt n ∷ []) end) (plain_at s srt at)
  plain_sound u Kind at = all_need _ 5 at _ λ e. let h : at + 1 ≤ length s = leb-true _ _ e in given (u at (omega arith), record { there = byte_there s at h; ends = refl })
  plain_sound u Tag at = all_need _ 5 at _ λ e. let h : at + 1 ≤ length s = leb-true _ _ e in given (u at (omega arith), record { there = byte_there s at h; ends = refl })
  plain_sound u Flag at =
      all_need _ 5 at _ λ e.
      all_need _ 6 at _ λ e₂. given (ltb-true _ 2 e₂, record { there = byte_there s at (leb-true _ _ e); ends = refl })
  plain_sound u Number at = all_need _ 5 at _ λ e. let h : at + 4 ≤ length s = leb-true _ _ e in given (number_small u at h, record { there = four_sound u at h; ends = refl })
  plain_sound u Count at = all_need _ 5 at _ λ e. let h : at + 4 ≤ length s = leb-true _ _ e in given (number_small u at h, record { there = four_sound u at h; ends = refl })

  text_sound : Bytes s → (at : ℕ) → All (λ t end. Fits (string t) × Leaves s at (string t ∷ []) end) (text_at s at)
  unfolding utf8
  text_sound u at =
      all_bind (four_at s at) _ (plain_sound u Number at) λ n at₁ p.
      all_need _ 5 at₁ _ λ e.
      all_need _ 7 at₁ _ λ e₂.
      let (k, d) = part_there s at₁ n (leb-true (at₁ + n) (length s) e) in
      given (((utf8_exact _).0 e₂, rw k p.0), text_stands (take n (drop at₁ s)) at (at₁ + n) (rw (k, ← d) p.1.there) (omega (arith, p.1.ends)))

  pub byte_complete : (at end n : ℕ) → drop at s ≡ n ∷ drop end s → (enough s at 1 ≡ true) × (get_or s at 0 ≡ n)
  byte_complete at end n e = (le-leb (at + 1) (length s) (omega (arith, inside s at _ e 0 (omega arith))), rw add-zero at (found s at _ e 0))

  pub four_complete : (at end n : ℕ) → n < 4294967296 → drop at s ≡ four n ++ drop end s → (enough s at 4 ≡ true) × (number_at s at ≡ n)
  four_complete at end n h e =
      let e0 : get_or s at 0 ≡ n % 256 = rw add-zero at (found s at _ e 0) in
      (le-leb (at + 4) (length s) (omega (arith, inside s at _ e 3 (omega arith))), rw (e0, found s at _ e 1, found s at _ e 2, found s at _ e 3) (number_four n h))

  plain_complete : {at end : ℕ} (srt : Sort) (n : ℕ) → Fits (plain srt n) → Leaves s at (plain srt n ∷ []) end → plain_at s srt at ≡ ok n end
  plain_complete {at} {end} Kind n f h = let (b, g) = byte_complete at end n h.there in rw (b, g, h.ends)
  plain_complete {at} {end} Tag n f h = let (b, g) = byte_complete at end n h.there in rw (b, g, h.ends)
  plain_complete {at} {end} Flag n f h = let (b, g) = byte_complete at end n h.there in rw (b, g, h.ends, lt-ltb n 2 f)
  plain_complete {at} {end} Number n f h = let (b, g) = four_complete at end n f h.there in rw (b, g, h.ends)
  plain_complete {at} {end} Count n f h = let (b, g) = four_complete at end n f h.there in rw (b, g, h.ends)

  text_complete : {at end : ℕ} (t : List ℕ) → Fits (string t) → Leaves s at (string t ∷ []) end → text_at s at ≡ ok t end
  unfolding utf8
  text_complete {at} {end} t f h =
      let (e, k) = text_stood t at end h in
      let d : drop (at + 4) s ≡ t ++ drop end s = rest_after s at (four (length t)) _ e in
      let g : four_at s at ≡ ok (length t) (at + 4) = plain_complete {at = at} Number (length t) f.1 (record { there = rw d e; ends = refl }) in
      let b : at + 4 ≤ length s = leb-true _ _ (four_complete at (at + 4) (length t) f.1 (rw d e)).0 in
      let l : enough s (at + 4) (length t) ≡ true = le-leb (at + 4 + length t) (length s) (omega (arith, ap length d, length-append t (drop end s), length-drop (at + 4) s)) in
      rw (g, l) (rw (d, take-append_seam, (utf8_exact t).1 f.0, k))

  bytes_sound : Bytes s → Sound (in_bytes s) Fits (Leaves s)
  bytes_sound u = record { none = none_begin; join = join; plainly = plain_sound u; textly = text_sound u }

  bytes_complete : Complete (in_bytes s) Fits (Leaves s)
  bytes_complete = record { none = none_end; part = part; plainly = plain_complete; textly = text_complete }

-- A proper value whose bytes are at a place is what is read there
pub read_value_complete : (L : Layout) (v : Value L) (s : List ℕ) (at : ℕ) (rest : List ℕ) → Proper L v → drop at s ≡ bytes L v ++ rest → read_value L s at ≡ ok v (at + length (bytes L v))
unfolding read_value
read_value_complete L v s at rest p e = complete (in_bytes s) Fits (Leaves s) (bytes_complete s) L v p (record { there = rw (rest_after s at (bytes L v) rest e) e; ends = refl })

pub read_complete : (L : Layout) (v : Value L) (s : List ℕ) (at : ℕ) (rest : List ℕ) → Proper L v → drop at s ≡ bytes L v ++ rest → read L s at ≡ ok (leaves L v) (at + length (bytes L v))
unfolding read
read_complete L v s at rest p e = rw (read_value_complete L v s at rest p e)

-- What is read is a proper value whose bytes are there
pub read_value_sound : (L : Layout) (s : List ℕ) → Bytes s → (at : ℕ) (v : Value L) (end : ℕ) → read_value L s at ≡ ok v end → Proper L v × Stand s at (bytes L v) end
unfolding read_value
read_value_sound L s u at v end e = let p = all_ok (sound (in_bytes s) Fits (Leaves s) (bytes_sound s u) L at) e in (p.0, (p.1.there, p.1.ends))

pub read_sound : (L : Layout) (s : List ℕ) → Bytes s → (at : ℕ) (ls : List Leaf) (end : ℕ) → read L s at ≡ ok ls end
    → (v : Value L) × Proper L v × (leaves L v ≡ ls) × Stand s at (bytes L v) end
unfolding read
read_sound L s u at ls end = go (read_value L s at) refl
  where
    go : (g : Outcome ℕ (Value L)) → read_value L s at ≡ g → (g >>= λ v end₁. ok (leaves L v) end₁) ≡ ok ls end
        → (v : Value L) × Proper L v × (leaves L v ≡ ls) × Stand s at (bytes L v) end
    go (ok v end₁) e k =
        let q : leaves L v ≡ ls = cc in
        let n : end₁ ≡ end = cc in
        let p = read_value_sound L s u at v end₁ e in
        (v, p.0, q, rw n at p.1)
    go (refuse n p) e k = let z : ◌≡◌ {A = ℕ} 0 1 = cc in absurd (omega arith)

pub read_exact : ReadExact
read_exact L s u at ls end = (read_sound L s u at ls end, λ h. rw (← h.2, h.3.1) (read_complete L h.0 s at (drop end s) h.1 h.3.0))

pub value_unique : ValueUnique
value_unique L v w r t p q e =
    let h = read_value_complete L v (bytes L v ++ r) 0 r p refl in
    let k = read_value_complete L w (bytes L v ++ r) 0 t q e in
    let g : v ≡ w = cc in
    (g, append_cancel_left (bytes L v) r t (rw (← g) at e))
