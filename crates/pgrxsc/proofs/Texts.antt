-- The row of each text of a section that is derived gives that text.
use Prim.Native.Nat.{ℕ, ◌+◌}
use native.Mathlib.Omega.{arith}
use mathlib.Core.List.{List, [], ◌∷◌, ◌++◌, append_assoc, head-eq_of_cons-eq, tail-eq_of_cons-eq}
use mathlib.Core.Path.{◌≡◌, sym, ap, subst, ◌∙◌}
use lib.ListN.{length, drop, replicate}
use Rattle.layout.specs.Layout.{Leaf, string, Layout, nothing, one, text, ◌then◌, case, check, Value, leaves, Meets, Fits, Proper}
use Rattle.layout.specs.Written.{four, bytes_of, bytes}
use Rattle.layout.specs.Entities.{Entity}
use Rattle.layout.proofs.InBytes.{bytes_of_append, rest_after, read_complete}
use Rattle.parts.specs.Parts.{kept_name}
use Rattle.parts.proofs.RowText.{row_part}
use Rattle.parts.proofs.KeptName.{kept_part}
use Rattle.framing.specs.Entries.{sentinel_bytes}
use Rattle.section.specs.Derivation.{Item, sentinel, entity, entries, ProperItems, Placed, placed}
use Rattle.pgrxsc.specs.Theorems.{TextFound, KeptFound}

-- Each leaf of a list is as F says
abbrev Each : (F : Leaf → Type 0) → List Leaf → Type 0
Each F [] = Unit {0}
Each F (x ∷ ls) = F x × Each F ls

each_append : (F : Leaf → Type 0) (a b : List Leaf) → Each F a → Each F b → Each F (a ++ b)
each_append F [] b p q = q
each_append F (x ∷ a) b p q = (p.0, each_append F a b p.1 q)

each_middle : (F : Leaf → Type 0) (a : List Leaf) (x : Leaf) (b : List Leaf) → Each F (a ++ (x ∷ b)) → F x
each_middle F [] x b p = p.0
each_middle F (y ∷ a) x b p = each_middle F a x b p.1

meets_each : (F : Leaf → Type 0) (L : Layout) (v : Value L) → Meets F L v → Each F (leaves L v)
meets_each F nothing v p = tt
meets_each F (one srt) n p = (p, tt)
meets_each F text t p = (p, tt)
meets_each F (A then B) v p = each_append F (leaves A v.0) (leaves B v.1) (meets_each F A v.0 p.0) (meets_each F B v.1 p.1)
meets_each F (case srt A j B) v p = (p.0, each_append F (leaves A v.1) (leaves (B v.0) v.2) (meets_each F A v.1 p.1) (meets_each F (B v.0) v.2 p.3))
meets_each F (check A j) v p = meets_each F A v p.0

-- An entity whose leaves stand where it is placed
record PlacedIn (s : List ℕ) (e : Placed) : Type 0 where
  fits : Each Fits e.content
  rest : List ℕ
  there : drop e.at s ≡ bytes_of e.content ++ rest

placed_one : (s : List ℕ) (at : ℕ) (v : Value Entity) (r : List ℕ) → Proper Entity v → drop (at + 4) s ≡ bytes Entity v ++ r → PlacedIn s (record { at = at + 4; content = leaves Entity v })
placed_one s at v r p d = record { fits = meets_each Fits Entity v p; rest = r; there = d }

placed_in : (s : List ℕ) (at : ℕ) (is : List Item) (r : List ℕ) → ProperItems is → drop at s ≡ entries is ++ r → (before after : List Placed) (e : Placed) → placed at is ≡ before ++ (e ∷ after) → PlacedIn s e
placed_in s at [] r p d [] after e q = let z : ◌≡◌ {A = ℕ} 0 1 = cc in absurd (omega arith)
placed_in s at [] r p d (b ∷ before) after e q = let z : ◌≡◌ {A = ℕ} 0 1 = cc in absurd (omega arith)
placed_in s at (sentinel ∷ is) r p d before after e q = placed_in s (at + 4 + length sentinel_bytes) is r p.1 (rest_after s (at + 4) sentinel_bytes (entries is ++ r) (rest_after s at (four (length sentinel_bytes)) _ d)) before after e q
placed_in s at (entity v ∷ is) r p d [] after e q =
    let g : drop at s ≡ four (length (bytes Entity v)) ++ (bytes Entity v ++ (entries is ++ r)) = simp append_assoc at d in
    subst (PlacedIn s) (head-eq_of_cons-eq q) (placed_one s at v (entries is ++ r) p.0.0 (rest_after s at (four (length (bytes Entity v))) _ g))
placed_in s at (entity v ∷ is) r p d (b ∷ before) after e q =
    let g : drop at s ≡ four (length (bytes Entity v)) ++ (bytes Entity v ++ (entries is ++ r)) = simp append_assoc at d in
    placed_in s (at + 4 + length (bytes Entity v)) is r p.1 (rest_after s (at + 4) (bytes Entity v) (entries is ++ r) (rest_after s at (four (length (bytes Entity v))) _ g)) before after e (tail-eq_of_cons-eq q)

pub text_found : TextFound
text_found s d g before after e q ls ms t k row w =
    let h = placed_in s 0 d.items (replicate d.padding 0) g.by.proper (sym g.by.derives) before after e q in
    let f : Fits (string t) = each_middle Fits ls (string t) ms (rw k at h.fits) in
    let b : bytes_of e.content ≡ bytes_of ls ++ (bytes_of (string t ∷ []) ++ bytes_of ms) = rw (k, bytes_of_append ls (string t ∷ ms)) (ap (λ (x : List ℕ). bytes_of ls ++ x) (bytes_of_append (string t ∷ []) ms)) in
    let i : drop e.at s ≡ bytes_of ls ++ (bytes_of (string t ∷ []) ++ (bytes_of ms ++ h.rest)) = h.there ∙ rw (b, append_assoc, append_assoc) in
    let j : drop (e.at + length (bytes_of ls)) s ≡ bytes_of (string t ∷ []) ++ (bytes_of ms ++ h.rest) = rest_after s e.at (bytes_of ls) _ i in
    row_part s g.small (e.at + length (bytes_of ls)) t _ (read_complete text t s (e.at + length (bytes_of ls)) (bytes_of ms ++ h.rest) f j) row w

pub kept_found : KeptFound
kept_found s d g before after e q ls ms t k row w = kept_part s row ∙ ap kept_name (text_found s d g before after e q ls ms t k row w)
