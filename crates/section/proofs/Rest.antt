-- The rest of a derived section, entry after entry.
use Prim.Native.Nat.{ℕ, ◌+◌, ◌≤◌}
use native.Mathlib.Nat.{add-zero}
use native.Mathlib.Omega.{arith}
use mathlib.Core.Bool.{Bool, true, false, cond}
use mathlib.Core.List.{List, [], ◌∷◌, ◌++◌, append_assoc}
use mathlib.Core.Path.{◌≡◌, refl, sym, ap, ◌∙◌}
use lib.ListN.{length, get_or, drop, replicate}
use lib.Seq.{get_or-drop}
use Rattle.layout.specs.Reading.{enough}
use Rattle.layout.specs.Answers.{limit}
use Rattle.raw_bytes.specs.Bytes.{number_or0}
use Rattle.raw_bytes.proofs.Number.{number_there}
use Rattle.framing.proofs.Framing.{entry_at}
use Rattle.section.specs.Derivation.{Item, Derivation, payload, entries, ProperItem, ProperItems}
use Rattle.section.specs.Demand3.{Good}
use Rattle.section.specs.Rest.{Rest}
use Rattle.section.proofs.Derivation.{payload_some, payload_small, zero_at, derivation_unique}

-- The whole section
abbrev pub rest_whole : (s : List ℕ) (d : Derivation) → Good s d → Rest s 0
rest_whole s d g = record { small = g.small; inside = omega arith; derivation = d; by = g.by }

-- The rest has one derivation
pub rest_unique : {s : List ℕ} {at : ℕ} (w x : Rest s at) → w.derivation ≡ x.derivation
rest_unique {s} {at} w x = derivation_unique (drop at s) w.derivation x.derivation w.by x.by

-- In padding the length is 0
cond_same : (b : Bool) → ◌≡◌ {A = ℕ} (cond b 0 0) 0
cond_same true = refl
cond_same false = refl

padding_length : (s : List ℕ) (at m : ℕ) → replicate m 0 ≡ drop at s → number_or0 s at ≡ 0
unfolding number_or0
padding_length s at m e =
    let z : (i : ℕ) → ◌≡◌ {A = ℕ} (get_or s (at + i) 0) 0 = λ i. sym (get_or-drop at s i 0) ∙ ap (λ (l : List ℕ). get_or l i 0) (sym e) ∙ zero_at m i in
    let z₀ : ◌≡◌ {A = ℕ} (get_or s at 0) 0 = rw add-zero at (z 0) in
    rw (z₀, z 1, z 2, z 3) (cond_same (enough s at 4))

-- The entry at a boundary: the first of the items, its payload, and the rest after it
pub record First (s : List ℕ) (at size : ℕ) (is : List Item) : Type 0 where
  pub item : Item
  pub others : List Item
  pub items : is ≡ item ∷ others
  pub proper : ProperItem item
  pub sized : size ≡ length (payload item)
  pub after : List ℕ
  pub there : drop (at + 4) s ≡ payload item ++ after
  pub rest : Rest s (at + 4 + size)
  pub left : rest.derivation.items ≡ others

first_of : (s : List ℕ) (at : ℕ) → length s ≤ limit → at ≤ length s → (m : ℕ) (is : List Item) → ProperItems is → entries is ++ replicate m 0 ≡ drop at s
    → (size : ℕ) → size ≡ number_or0 s at → (size ≡ 0 → ⊥) → First s at size is
first_of s at h k m [] p e size l n = absurd (n (l ∙ padding_length s at m e))
first_of s at h k m (i ∷ is) p e size l n =
    let a = entry_at s at (payload i) (entries is ++ replicate m 0) k (payload_some i) (payload_small i p.0) (simp append_assoc at (sym e)) in
    let q : size ≡ length (payload i) = l ∙ number_there s at (omega (arith, a.inside)) ∙ a.number in
    rw q
    (record {
      item = i;
      others = is;
      items = refl;
      proper = p.0;
      sized = refl;
      after = entries is ++ replicate m 0;
      there = a.payload;
      rest = record { small = h; inside = a.inside; derivation = record { items = is; padding = m }; by = record { proper = p.1; derives = sym a.after } };
      left = refl;
    })

none_of : (s : List ℕ) (at : ℕ) → at ≤ length s → (m : ℕ) (is : List Item) → ProperItems is → entries is ++ replicate m 0 ≡ drop at s → number_or0 s at ≡ 0 → is ≡ []
none_of s at k m [] p e n = refl
none_of s at k m (i ∷ is) p e n =
    let a = entry_at s at (payload i) (entries is ++ replicate m 0) k (payload_some i) (payload_small i p.0) (simp append_assoc at (sym e)) in
    let q : number_or0 s at ≡ length (payload i) = number_there s at (omega (arith, a.inside)) ∙ a.number in
    absurd (omega (arith, payload_some i))

module _ {s : List ℕ} {at : ℕ} (w : Rest s at) where
  pub rest_first : (size : ℕ) → size ≡ number_or0 s at → (size ≡ 0 → ⊥) → First s at size w.derivation.items
  rest_first = first_of s at w.small w.inside w.derivation.padding w.derivation.items w.by.proper w.by.derives

  pub rest_none : number_or0 s at ≡ 0 → w.derivation.items ≡ []
  rest_none = none_of s at w.inside w.derivation.padding w.derivation.items w.by.proper w.by.derives
