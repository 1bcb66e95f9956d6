-- The reading from bytes refuses exactly at the first bad read.
use Prim.Native.Nat.{ℕ, ◌+◌, ◌≤◌, ◌<◌}
use native.Mathlib.Omega.{arith}
use mathlib.Core.Bool.{Bool, true, false}
use mathlib.Core.List.{List}
use mathlib.Core.Path.{◌≡◌, refl, ap, ◌∙◌}
use lib.Dec.{leb}
use lib.ListN.{length, take, drop, length-append, length-drop}
use lib.Seq.{take-append_seam}
use borrow.Author.Tests.{leb-true, leb-false, ltb-false, le-leb, lt-leb, le-ltb}
use Rattle.layout.specs.Layout.{Sort, Kind, Tag, Flag, Number, Count, Leaf, Verdict, Layout, nothing, one, text, ◌then◌, case, check, Value, leaves, values_of}
use Rattle.layout.specs.Written.{width, Stand}
use Rattle.layout.specs.BadReads.{Stands, BadRead, number_cut, length_cut, text_cut, not_flag, text_not_utf8, first, second, before, bad_leaf, branch, inside, bad_part, BadPayload, bad_read, bytes_remain}
use Rattle.layout.specs.Reading.{Outcome, ok, refuse, ◌>>=◌, need, judged, walk, utf8, enough, four_at, plain_at, text_at, in_bytes, read_value, read}
use Rattle.layout.specs.Theorems.{Bytes, BadReadExact}
use Rattle.layout.proofs.Walk.{All, all_when, Fails, good, fails_bind, fails_need, fails_judged, fails_map, fails_refuse}
use Rattle.layout.proofs.InBytes.{byte_there, byte_complete, four_complete, part_there, read_value_sound, read_value_complete, read_sound, read_complete}
use Rattle.text.specs.Rfc3629.{Utf8}
use Rattle.text.proofs.Exact.{utf8_exact}

pub not_true : (b : Bool) → (b ≡ true → ⊥) → b ≡ false
not_true true h = absurd (h refl)
not_true false h = refl

module _ (s : List ℕ) (srt : Sort) (A : Layout) (j : ℕ → Verdict) (B : ℕ → Layout) (at : ℕ) where
  -- What follows the leaf of a case and the part before the verdict
  abbrev rest : Value (one srt then A) → ℕ → Outcome ℕ (Value (case srt A j B))
  rest v m = judged (j v.0) at (walk (in_bytes s) (B v.0) m >>= λ b end. ok (v.0, v.1, b) end)

  part_rest : (n : ℕ) (g : Outcome ℕ (Value A)) → (g >>= λ a m. rest (n, a) m) ≡ (◌>>=◌ {B = Value (one srt then A)} g (λ a m. ok (n, a) m) >>= rest)
  part_rest n (ok a m) = refl
  part_rest n (refuse k p) = refl

  leaf_rest : (g : Outcome ℕ ℕ) → (g >>= λ n k. walk (in_bytes s) A k >>= λ a m. rest (n, a) m) ≡ (◌>>=◌ {B = Value (one srt then A)} g (λ n k. walk (in_bytes s) A k >>= λ a m. ok (n, a) m) >>= rest)
  leaf_rest (ok n k) = part_rest n (walk (in_bytes s) A k)
  leaf_rest (refuse n p) = refl

  case_parts : walk (in_bytes s) (case srt A j B) at ≡ (walk (in_bytes s) (one srt then A) at >>= rest)
  unfolding walk
  case_parts = leaf_rest (plain_at s srt at)

module _ (s : List ℕ) where
  -- What is read is there in full, and what is there in full is read
  whole : Bytes s → (L : Layout) (at : ℕ) → All (Stands s L at) (walk (in_bytes s) L at)
  unfolding read_value
  whole u L at = all_when (walk (in_bytes s) L at) λ v end e. let (p, t) = read_value_sound L s u at v end e in record { proper = p; there = t }

  is_read : (L : Layout) {at end : ℕ} {v : Value L} → Stands s L at v end → walk (in_bytes s) L at ≡ ok v end
  unfolding read_value
  is_read L {at} {end} {v} h = rw h.there.1 (read_value_complete L v s at (drop end s) h.proper h.there.0)

  -- The reading refuses only at the first bad read
  plain_bad : (srt : Sort) (at : ℕ) → Fails (BadRead s (one srt) at) (plain_at s srt at)
  plain_bad Kind at = fails_need _ 5 at _ (λ e. number_cut (leb-false _ _ e)) λ e. good
  plain_bad Tag at = fails_need _ 5 at _ (λ e. number_cut (leb-false _ _ e)) λ e. good
  plain_bad Flag at =
      fails_need _ 5 at _ (λ e. number_cut (leb-false _ _ e)) λ e.
      fails_need _ 6 at _ (λ e₂. not_flag (byte_there s at (leb-true _ _ e), refl) (ltb-false _ 2 e₂)) λ e₂. good
  plain_bad Number at = fails_need _ 5 at _ (λ e. number_cut (leb-false _ _ e)) λ e. good
  plain_bad Count at = fails_need _ 5 at _ (λ e. number_cut (leb-false _ _ e)) λ e. good

  text_bad : Bytes s → (at : ℕ) → Fails (BadRead s text at) (text_at s at)
  unfolding walk utf8
  text_bad u at =
      fails_bind (four_at s at) _ (whole u (one Number) at) (fails_need _ 5 at _ (λ e. length_cut (leb-false _ _ e)) λ e. good) λ n m h.
      fails_need (enough s m n) 5 m _ (λ e. text_cut h (leb-false _ _ e)) λ e.
      fails_need (utf8 (take n (drop m s))) 7 m _ (λ e₂. body n m h (leb-true _ _ e) λ q. not_both ((utf8_exact _).1 q) e₂) λ e₂. good
    where
      not_both : {b : Bool} → b ≡ true → b ≡ false → ⊥
      not_both e q = let z : ◌≡◌ {A = ℕ} 0 1 = cc in omega arith

      body : (n m : ℕ) → Stands s (one Number) at n m → m + n ≤ length s → (Utf8 (take n (drop m s)) → ⊥) → BadRead s text at 7 m
      body n m h i q =
          let (k, d) = part_there s m n i in
          text_not_utf8 {at = at} {m = m} {end = m + n} (take n (drop m s)) (rw k h) (d, rw k) q

  then_bad : Bytes s → (A B : Layout) (at : ℕ) → Fails (BadRead s A at) (walk (in_bytes s) A at) → ((m : ℕ) → Fails (BadRead s B m) (walk (in_bytes s) B m)) → Fails (BadRead s (A then B) at) (walk (in_bytes s) (A then B) at)
  unfolding walk
  then_bad u A B at h k =
      fails_bind (walk (in_bytes s) A at) _ (whole u A at) (fails_map h λ n p b. first b) λ a m w.
      fails_bind (walk (in_bytes s) B m) _ (whole u B m) (fails_map (k m) λ n p b. second w b) λ b end w₂. good

  walk_bad : Bytes s → (L : Layout) (at : ℕ) → Fails (BadRead s L at) (walk (in_bytes s) L at)
  unfolding walk
  walk_bad u nothing at = good
  walk_bad u (one srt) at = plain_bad srt at
  walk_bad u text at = text_bad u at
  walk_bad u (A then B) at = then_bad u A B at (walk_bad u A at) λ m. walk_bad u B m
  walk_bad u (case srt A j B) at =
      rw (case_parts s srt A j B at)
      (fails_bind (walk (in_bytes s) (one srt then A) at) _ (whole u (one srt then A) at)
      (fails_map (then_bad u (one srt) A at (plain_bad srt at) λ m. walk_bad u A m) λ n p b. before b) λ v m w.
      fails_judged (j v.0) at _ (λ f e. bad_leaf w e) λ e.
      fails_bind (walk (in_bytes s) (B v.0) m) _ (whole u (B v.0) m) (fails_map (walk_bad u (B v.0) m) λ n p b. branch w e b) λ b end w₂. good)
  walk_bad u (check A j) at =
      fails_bind (walk (in_bytes s) A at) _ (whole u A at) (fails_map (walk_bad u A at) λ n p b. inside b) λ a m w.
      fails_judged (j (values_of (leaves A a))) at _ (λ f e. bad_part w e) λ e. good

  -- And it does refuse there
  plain_cut : (srt : Sort) (at : ℕ) → length s < at + width srt → plain_at s srt at ≡ refuse 5 at
  plain_cut Kind at h = rw (lt-leb (at + 1) (length s) h)
  plain_cut Tag at h = rw (lt-leb (at + 1) (length s) h)
  plain_cut Flag at h = rw (lt-leb (at + 1) (length s) h)
  plain_cut Number at h = rw (lt-leb (at + 4) (length s) h)
  plain_cut Count at h = rw (lt-leb (at + 4) (length s) h)

  text_not : (at m end : ℕ) (t : List ℕ) → Stands s (one Number) at (length t) m → Stand s m t end → (Utf8 t → ⊥) → text_at s at ≡ refuse 7 m
  unfolding walk utf8
  text_not at m end t h d q =
      let b : at + 4 ≤ length s = leb-true _ _ (four_complete s at m (length t) h.proper h.there.0).0 in
      let i : m + length t ≤ length s = omega (arith, h.there.1, ap length d.0, length-append t (drop end s), length-drop m s) in
      let f : utf8 t ≡ false = not_true (utf8 t) λ e. q ((utf8_exact t).0 e) in
      let g : four_at s at ≡ ok (length t) m = is_read (one Number) h in
      rw (g, le-leb (m + length t) (length s) i, d.0, take-append_seam, f)

  walk_refuses : {L : Layout} {at n p : ℕ} → BadRead s L at n p → walk (in_bytes s) L at ≡ refuse n p
  unfolding walk
  walk_refuses (number_cut {srt} {at} h) = plain_cut srt at h
  walk_refuses (length_cut {at} h) = rw (plain_cut Number at h)
  walk_refuses (text_cut {at} {n} {m} h i) = rw (is_read (one Number) h, lt-leb (m + n) (length s) i)
  walk_refuses (not_flag {at} {b} {m} h i) = let (e, g) = byte_complete s at m b h.0 in rw (e, g, le-ltb b 2 i)
  walk_refuses (text_not_utf8 {at} {m} {end} t h d q) = text_not at m end t h d q
  walk_refuses (first b) = rw (walk_refuses b)
  walk_refuses (second {A = A} h b) = rw (is_read A h, walk_refuses b)
  walk_refuses (before {srt} {A} {j} {B} {at} b) = case_parts s srt A j B at ∙ rw (walk_refuses b)
  walk_refuses (bad_leaf {srt} {A} {j} {B} {at} h e) = case_parts s srt A j B at ∙ rw (is_read (one srt then A) h, e)
  walk_refuses (branch {srt} {A} {j} {B} {at} h e b) = case_parts s srt A j B at ∙ rw (is_read (one srt then A) h, e, walk_refuses b)
  walk_refuses (inside b) = rw (walk_refuses b)
  walk_refuses (bad_part {A = A} h e) = rw (is_read A h, e)

  read_bad : Bytes s → (L : Layout) (at : ℕ) → Fails (BadRead s L at) (read L s at)
  unfolding read read_value
  read_bad u L at = fails_bind (walk (in_bytes s) L at) _ (whole u L at) (walk_bad u L at) λ v end w. good

  read_refuses : {L : Layout} {at n p : ℕ} → BadRead s L at n p → read L s at ≡ refuse n p
  unfolding read read_value
  read_refuses b = rw (walk_refuses b)

  -- A value, then 12 if bytes remain after it, up to the end of s
  module _ {A : Type 0} (found : List Leaf → A) (stop : ℕ) (l : length s ≡ stop) where
    abbrev pub ended : List Leaf → ℕ → Outcome ℕ A
    ended ls end = need (leb stop end) 12 end (ok (found ls) end)

    pub payload_bad : Bytes s → (L : Layout) (at : ℕ) → Fails (BadPayload s L at) (read L s at >>= ended)
    payload_bad u L at =
        fails_bind (read L s at) _ (all_when (read L s at) (read_sound L s u at)) (fails_map (read_bad u L at) λ n p b. bad_read b) λ ls end h.
        fails_need (leb stop end) 12 end _ (λ e. bytes_remain {v = h.0} (record { proper = h.1; there = h.3 }) (omega (arith, leb-false stop end e))) λ e. good

    pub payload_refuses : {L : Layout} {at n p : ℕ} → BadPayload s L at n p → (read L s at >>= ended) ≡ refuse n p
    payload_refuses (bad_read b) = rw (read_refuses b)
    payload_refuses {L} {at} (bytes_remain {v} {end} h i) = rw (read_complete L v s at (drop end s) h.proper h.there.0, ← h.there.1, lt-leb stop end (omega arith))

pub bad_read_exact : BadReadExact
bad_read_exact L s u at n p = (fails_refuse (read_bad s u L at), read_refuses s)
