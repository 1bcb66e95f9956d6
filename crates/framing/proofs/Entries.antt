-- From boundary to boundary: a whole entry, or the end of the framing.
use Prim.Native.Nat.{ℕ, ◌+◌, ◌-◌, ◌≤◌, ◌<◌}
use native.Mathlib.Omega.{arith}
use mathlib.Core.Bool.{Bool, true, false, cond, ◌&&◌}
use mathlib.Core.List.{List, [], ◌∷◌}
use mathlib.Core.Logic.{◌⊎◌, inl, inr}
use mathlib.Core.Path.{◌≡◌, refl, sym, ◌∙◌}
use lib.Dec.{leb}
use lib.ListN.{length, take, drop, length-drop}
use lib.Seq.{take_all}
use borrow.Author.Tests.{leb-true, leb-false, le-leb, lt-leb}
use Rattle.layout.specs.Reading.{ok, refuse, number_at}
use Rattle.layout.specs.Theorems.{Bytes}
use Rattle.layout.proofs.InBytes.{four_sound, number_small}
use Rattle.raw_bytes.specs.Bytes.{number_or0}
use Rattle.raw_bytes.proofs.Number.{number_there}
use Rattle.framing.specs.Framing.{all_zero, Part, Parts, framing_from}
use Rattle.framing.specs.Answers.{end_of}
use Rattle.framing.specs.Places.{entry_end}
use Rattle.framing.proofs.Framing.{part_at, parts_before, from_pad, from_few, from_zero, from_long, from_entry, from_beyond, four_not_zero}

-- A whole entry is at a boundary, or none is
module _ (s : List ℕ) (at : ℕ) where
  pub entry_here : 1 ≤ number_or0 s at → at + 4 + number_or0 s at ≤ length s → entry_end s at ≡ at + 4 + number_or0 s at
  unfolding entry_end
  entry_here h k = rw (le-leb 1 (number_or0 s at) h, le-leb (at + 4 + number_or0 s at) (length s) k)

  pub entry_zero : number_or0 s at ≡ 0 → entry_end s at ≡ at
  unfolding entry_end
  entry_zero h = rw h

  pub entry_long : length s < at + 4 + number_or0 s at → entry_end s at ≡ at
  unfolding entry_end
  entry_long h = go (leb 1 (number_or0 s at))
    where
      go : (b : Bool) → cond (b && leb (at + 4 + number_or0 s at) (length s)) (at + 4 + number_or0 s at) at ≡ at
      go true = rw (lt-leb (at + 4 + number_or0 s at) (length s) h)
      go false = refl

  -- By its end
  record Whole : Type 0 where
    some : 1 ≤ number_or0 s at
    inside : at + 4 + number_or0 s at ≤ length s

  whole_or_none : (entry_end s at ≡ at) ⊎ Whole
  whole_or_none = go (leb 1 (number_or0 s at)) (leb (at + 4 + number_or0 s at) (length s)) refl refl
    where
      go : (b c : Bool) → leb 1 (number_or0 s at) ≡ b → leb (at + 4 + number_or0 s at) (length s) ≡ c → (entry_end s at ≡ at) ⊎ Whole
      go true true e f = inr (record { some = leb-true 1 (number_or0 s at) e; inside = leb-true (at + 4 + number_or0 s at) (length s) f })
      go true false e f = inl (entry_long (leb-false (at + 4 + number_or0 s at) (length s) f))
      go false c e f = inl (entry_zero (omega (arith, leb-false 1 (number_or0 s at) e)))

  pub none_here : entry_end s at ≤ at → entry_end s at ≡ at
  none_here h = go whole_or_none
    where
      go : (entry_end s at ≡ at) ⊎ Whole → entry_end s at ≡ at
      go (inl e) = e
      go (inr w) = absurd (omega (arith, entry_here w.some w.inside))

  pub whole_here : at < entry_end s at → (entry_end s at ≡ at + 4 + number_or0 s at) × (1 ≤ number_or0 s at) × (at + 4 + number_or0 s at ≤ length s)
  whole_here h = go whole_or_none
    where
      go : (entry_end s at ≡ at) ⊎ Whole → (entry_end s at ≡ at + 4 + number_or0 s at) × (1 ≤ number_or0 s at) × (at + 4 + number_or0 s at ≤ length s)
      go (inl e) = absurd (omega arith)
      go (inr w) = (entry_here w.some w.inside, w.some, w.inside)

-- The same, by an end that the code has computed
pub whole_at : (s : List ℕ) (at end : ℕ) → end ≡ entry_end s at → at < end → (at + 4 ≤ end) × (end ≤ length s)
whole_at s at end e h =
    let (i, j, k) = whole_here s at (omega (arith, e)) in
    (omega (arith, e, i), omega (arith, e, i))

-- The bytes from a place on
pub rest_there : (s rest : List ℕ) (at : ℕ) → rest ≡ take (length s - at) (drop at s) → rest ≡ drop at s
rest_there s rest at e = e ∙ take_all (length s - at) (drop at s) (omega (arith, length-drop at s))

-- If no whole entry is at a boundary and the length is not 0, the length is too long
pub none_long : (s : List ℕ) (at : ℕ) → entry_end s at ≡ at → 1 ≤ number_or0 s at → length s < at + 4 + number_or0 s at
none_long s at e h = go (leb (at + 4 + number_or0 s at) (length s)) refl
  where
    go : (b : Bool) → leb (at + 4 + number_or0 s at) (length s) ≡ b → length s < at + 4 + number_or0 s at
    go true f = absurd (omega (arith, e, entry_here s at h (leb-true (at + 4 + number_or0 s at) (length s) f)))
    go false f = leb-false (at + 4 + number_or0 s at) (length s) f

-- The framing at a boundary where there is no whole entry
module _ (s : List ℕ) (at : ℕ) where
  pub ends_beyond : length s < at → ok tt at ≡ end_of (framing_from s at)
  ends_beyond h = sym (rw (from_beyond s at h))

  -- b is the result of the test for zeros
  module _ (h : at ≤ length s) (b : Bool) (q : b ≡ all_zero (drop at s)) where
    pub ends_padding : b ≡ true → ok tt at ≡ end_of (framing_from s at)
    ends_padding k = sym (rw (from_pad s at h (sym q ∙ k)))

    module _ (k : b ≡ false) where
      pub ends_few : length s < at + 4 → refuse 2 at ≡ end_of (framing_from s at)
      ends_few l = sym (rw (from_few s at h (sym q ∙ k) l))

      pub ends_zero : (n : ℕ) → n ≡ number_or0 s at → at + 4 ≤ length s → n ≡ 0 → refuse 3 at ≡ end_of (framing_from s at)
      ends_zero n e m l = sym (rw (from_zero s at h (sym q ∙ k) m (sym (number_there s at m) ∙ sym e ∙ l)))

      pub ends_long : (n : ℕ) → n ≡ number_or0 s at → at + 4 ≤ length s → 1 ≤ n → length s < at + 4 + n → refuse 4 at ≡ end_of (framing_from s at)
      ends_long n e m l j = sym (rw (from_long s at h (sym q ∙ k) n (sym (number_there s at m) ∙ sym e) m l j))

end_before : (p : Part) (g : Parts) → end_of (parts_before (p ∷ []) g) ≡ end_of g
end_before p (ok ps end) = refl
end_before p (refuse n q) = refl

-- A whole entry of n bytes at a boundary: the framing continues after it
pub record Next (s : List ℕ) (at n : ℕ) : Type 0 where
  pub inside : at + 4 + n ≤ length s
  pub frames : framing_from s at ≡ parts_before (part_at at n ∷ []) (framing_from s (at + 4 + n))
  pub ends : end_of (framing_from s at) ≡ end_of (framing_from s (at + 4 + n))

module _ (s : List ℕ) (u : Bytes s) (at : ℕ) where
  next_entry : (n : ℕ) → n ≡ number_or0 s at → 1 ≤ n → at + 4 + n ≤ length s → Next s at n
  next_entry n e l j =
      let m : at + 4 ≤ length s = omega arith in
      let k : number_at s at ≡ n = sym (number_there s at m) ∙ sym e in
      let z : all_zero (drop at s) ≡ false = rw (four_sound s u at m) (four_not_zero (number_at s at) (drop (at + 4) s) (rw k l) (number_small s u at m)) in
      let f = from_entry s at (omega arith) z n k m l j in
      record { inside = j; frames = f; ends = rw f (end_before (part_at at n) (framing_from s (at + 4 + n))) }

  pub next_whole : at < entry_end s at → Next s at (number_or0 s at)
  next_whole h = next_entry (number_or0 s at) refl (whole_here s at h).1 (whole_here s at h).2

  -- By the end of the entry
  pub next_end : (end : ℕ) → end ≡ entry_end s at → at < end → (end ≤ length s) × (end_of (framing_from s at) ≡ end_of (framing_from s end))
  next_end end q l =
      let h : at < entry_end s at = omega (arith, q) in
      let x = next_whole h in
      rw (q, (whole_here s at h).0) (x.inside, x.ends)
