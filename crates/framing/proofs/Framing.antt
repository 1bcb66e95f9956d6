-- The framing finds exactly the payloads and the padding that are in the section.
use Prim.Native.Nat.{ℕ, zero, suc, ◌+◌, ◌-◌, ◌/◌, ◌%◌, ◌≤◌, ◌<◌}
use native.Mathlib.Nat.{add-zero, zero-add}
use native.Mathlib.Omega.{arith}
use mathlib.Core.Bool.{Bool, true, false, cond, and-eq-true_iff}
use mathlib.Core.List.{List, [], ◌∷◌, ◌++◌, append_assoc, append-nil}
use mathlib.Core.Path.{◌≡◌, refl, sym, ap, ◌∙◌}
use lib.Dec.{eqb, leb}
use lib.ListN.{length, get_or, take, drop, replicate, length-append, length-drop, take-append-drop, drop_of_length-le}
use lib.Seq.{get_or-drop, drop-drop, length-take-le, drop-append_seam}
use borrow.Author.Tests.{leb-true, eqb-true, le-leb, lt-leb}
use Rattle.layout.specs.Written.{four}
use Rattle.layout.specs.Reading.{Outcome, ok, refuse, ◌>>=◌, need, number_at}
use Rattle.layout.specs.Theorems.{Bytes}
use Rattle.layout.proofs.Numbers.{number_four}
use Rattle.layout.proofs.Walk.{All, given, all_bind, all_need}
use Rattle.layout.proofs.BadReads.{not_true}
use Rattle.layout.proofs.InBytes.{rest_after, four_sound, number_small, four_complete}
use Rattle.framing.specs.Framing.{all_zero, Part, Parts, boundary, boundaries, framing_from, framing}
use Rattle.framing.specs.Entries.{framed, Framable}
use Rattle.framing.specs.Refusals.{NonZeroFrom}

-- A payload of n bytes, in an entry that begins at a place
abbrev pub part_at : (at n : ℕ) → Part
part_at at n = record { begin = at + 4; end = at + 4 + n }

-- The parts of entries, the first of which begins at a place
abbrev pub parts_of : ℕ → List (List ℕ) → List Part
parts_of at [] = []
parts_of at (x ∷ xs) = part_at at (length x) ∷ parts_of (at + 4 + length x) xs

-- Parts, followed by the parts found after them
abbrev pub parts_before : List Part → Parts → Parts
parts_before ps g = g >>= λ qs end. ok (ps ++ qs) end

-- The five cases of a boundary, by the results of its tests
module _ (s : List ℕ) (rest : ℕ → Parts) (at : ℕ) where
  boundary_pad : all_zero (drop at s) ≡ true → boundary s rest at ≡ ok [] at
  unfolding boundary
  boundary_pad z = rw z

  module _ (z : all_zero (drop at s) ≡ false) where
    boundary_few : length s < at + 4 → boundary s rest at ≡ refuse 2 at
    unfolding boundary
    boundary_few h = rw (z, lt-leb (at + 4) (length s) h)

    boundary_zero : at + 4 ≤ length s → number_at s at ≡ 0 → boundary s rest at ≡ refuse 3 at
    unfolding boundary
    boundary_zero h n = rw (z, le-leb (at + 4) (length s) h, n)

    module _ (n : ℕ) (e : number_at s at ≡ n) (h : at + 4 ≤ length s) (k : 1 ≤ n) where
      boundary_long : length s < at + 4 + n → boundary s rest at ≡ refuse 4 at
      unfolding boundary
      boundary_long l = rw (z, le-leb (at + 4) (length s) h, e, le-leb 1 n k, lt-leb (at + 4 + n) (length s) l)

      boundary_entry : at + 4 + n ≤ length s → boundary s rest at ≡ parts_before (part_at at n ∷ []) (rest (at + 4 + n))
      unfolding boundary
      boundary_entry l = rw (z, le-leb (at + 4) (length s) h, e, le-leb 1 n k, le-leb (at + 4 + n) (length s) l)

-- The payloads are in entries, from one place of s up to another
pub record Span (s : List ℕ) (at : ℕ) (payloads : List (List ℕ)) (end : ℕ) : Type 0 where
  pub framable : Framable payloads
  pub there : drop at s ≡ framed payloads ++ drop end s
  pub ends : end ≡ at + length (framed payloads)

pub span_none : (s : List ℕ) (at : ℕ) → Span s at [] at
span_none s at = record { framable = tt; there = refl; ends = omega arith }

-- They are there as the parts say, with padding after them
pub record FramedAs (s : List ℕ) (at : ℕ) (ps : List Part) (end : ℕ) : Type 0 where
  pub payloads : List (List ℕ)
  pub span : Span s at payloads end
  pub parts : ps ≡ parts_of at payloads
  pub padding : drop end s ≡ replicate (length s - end) 0

all_zero_sound : (t : List ℕ) → all_zero t ≡ true → t ≡ replicate (length t) 0
all_zero_sound [] e = refl
all_zero_sound (b ∷ t) e =
    let (p, q) = (and-eq-true_iff _ _).0 e in
    let z : b ≡ 0 = eqb-true b 0 p in
    let r : t ≡ replicate (length t) 0 = all_zero_sound t q in
    ap {B = List ℕ} (λ (x : ℕ). x ∷ t) z ∙ ap {B = List ℕ} (λ (l : List ℕ). 0 ∷ l) r

all_zero_complete : (m : ℕ) → all_zero (replicate m 0) ≡ true
all_zero_complete zero = refl
all_zero_complete (suc m) = all_zero_complete m

-- Not all bytes are zero exactly if some byte is not
some_there : (t : List ℕ) → all_zero t ≡ false → (i : ℕ) × (i < length t) × (1 ≤ get_or t i 0)
some_there [] e = let z : ◌≡◌ {A = ℕ} 0 1 = cc in absurd (omega arith)
some_there (zero ∷ t) e = let (i, h, k) = some_there t e in (suc i, omega arith, k)
some_there (suc b ∷ t) e = (0, omega arith, omega arith)

zero_there : (t : List ℕ) (i : ℕ) → all_zero t ≡ true → get_or t i 0 ≡ 0
zero_there [] i e = refl
zero_there (b ∷ t) zero e = eqb-true b 0 ((and-eq-true_iff (eqb b 0) (all_zero t)).0 e).0
zero_there (b ∷ t) (suc i) e = zero_there t i ((and-eq-true_iff (eqb b 0) (all_zero t)).0 e).1

pub non_zero : (s : List ℕ) (at : ℕ) → all_zero (drop at s) ≡ false → NonZeroFrom s at
non_zero s at e =
    let (i, h, k) = some_there (drop at s) e in
    (at + i, omega arith, omega (arith, length-drop at s), rw get_or-drop at k)

pub not_all_zero : (s : List ℕ) (at : ℕ) → NonZeroFrom s at → all_zero (drop at s) ≡ false
not_all_zero s at (i, h, k, l) = not_true _ λ e.
    let f : at + (i - at) ≡ i = omega arith in
    let z : get_or s i 0 ≡ 0 = rw (← f, ← get_or-drop at s (i - at) 0) (zero_there (drop at s) (i - at) e) in
    omega arith

pub all_cond : {S A : Type 0} {P : A → S → Type 0} (b : Bool) (x y : Outcome S A) → (b ≡ true → All P x) → (b ≡ false → All P y) → All P (cond b x y)
all_cond true x y f g = f refl
all_cond false x y f g = g refl

padding_framed : (s : List ℕ) (at : ℕ) → all_zero (drop at s) ≡ true → FramedAs s at [] at
padding_framed s at e = record { payloads = []; span = span_none s at; parts = refl; padding = rw length-drop at (all_zero_sound (drop at s) e) }

-- The payload of an entry
entry_cut : (s : List ℕ) (at n : ℕ) → at + 4 + n ≤ length s → drop at s ≡ four n ++ drop (at + 4) s → (x : List ℕ) × (length x ≡ n) × (drop at s ≡ four (length x) ++ (x ++ drop (at + 4 + n) s))
entry_cut s at n h e =
    let lx : length (take n (drop (at + 4) s)) ≡ n = length-take-le n (drop (at + 4) s) (omega (arith, length-drop (at + 4) s)) in
    let d : take n (drop (at + 4) s) ++ drop (at + 4 + n) s ≡ drop (at + 4) s = rw (← drop-drop n (at + 4) s) (take-append-drop n (drop (at + 4) s)) in
    (take n (drop (at + 4) s), lx, rw (d, lx) e)

-- One more entry before them
pub span_more : (s : List ℕ) (at n : ℕ) {xs : List (List ℕ)} {end : ℕ} → at + 4 + n ≤ length s → 1 ≤ n → n < 4294967296 → drop at s ≡ four n ++ drop (at + 4) s
    → Span s (at + 4 + n) xs end → (x : List ℕ) × (length x ≡ n) × Span s at (x ∷ xs) end
span_more s at n {xs} {end} h h₁ h₂ e r =
    let (x, lx, d) = entry_cut s at n h e in (
      x,
      lx,
      record {
        framable = (rw lx h₁, rw lx h₂, r.framable);
        there = rw (append_assoc (four (length x) ++ x), append_assoc, ← r.there) d;
        ends = omega (arith, lx, r.ends, length-append x (framed xs));
      },
    )

entry_framed : (s : List ℕ) (at n : ℕ) {ps : List Part} {end : ℕ} → at + 4 + n ≤ length s → 1 ≤ n → n < 4294967296 → drop at s ≡ four n ++ drop (at + 4) s
    → FramedAs s (at + 4 + n) ps end → FramedAs s at (part_at at n ∷ ps) end
entry_framed s at n h h₁ h₂ e r =
    let (x, lx, more) = span_more s at n h h₁ h₂ e r.span in
    record { payloads = x ∷ r.payloads; span = more; parts = rw (lx, r.parts); padding = r.padding }

pub boundaries_sound : (s : List ℕ) → Bytes s → (k at : ℕ) → at ≤ length s → length s < at + k → All (FramedAs s at) (boundaries k s at)
unfolding boundaries boundary
boundaries_sound s u zero at h f = absurd (omega arith)
boundaries_sound s u (suc k) at h f =
    all_cond (all_zero (drop at s)) _ _ (λ e. given (padding_framed s at e)) λ e₀.
    all_need _ 2 at _ λ e.
    all_need _ 3 at _ λ e₂.
    all_need _ 4 at _ λ e₃.
    let h₁ : at + 4 ≤ length s = leb-true (at + 4) (length s) e in
    let h₂ : 1 ≤ number_at s at = leb-true 1 (number_at s at) e₂ in
    let h₃ : at + 4 + number_at s at ≤ length s = leb-true (at + 4 + number_at s at) (length s) e₃ in
    all_bind (boundaries k s (at + 4 + number_at s at)) _ (boundaries_sound s u k (at + 4 + number_at s at) h₃ (omega arith)) λ ps end r.
    given (entry_framed s at (number_at s at) h₃ h₂ (number_small s u at h₁) (four_sound s u at h₁) r)

-- The framing from any boundary on, in terms of `boundary`
pub framing_start : (s : List ℕ) → framing s ≡ framing_from s 0
unfolding framing
framing_start s = refl

pub framed_as : (s : List ℕ) → Bytes s → (at : ℕ) → at ≤ length s → All (FramedAs s at) (framing_from s at)
unfolding framing_from
framed_as s u at h = boundaries_sound s u (suc (length s)) at h (omega arith)

need_same : (b : Bool) (n p : ℕ) (g k : Parts) → (b ≡ true → g ≡ k) → need b n p g ≡ need b n p k
need_same true n p g k h = h refl
need_same false n p g k h = refl

boundary_same : (s : List ℕ) (r q : ℕ → Parts) (at : ℕ) → ((m : ℕ) → at < m → m ≤ length s → r m ≡ q m) → boundary s r at ≡ boundary s q at
unfolding boundary
boundary_same s r q at h =
    ap (cond (all_zero (drop at s)) (ok [] at))
    (need_same (leb (at + 4) (length s)) 2 at _ _ λ e₁.
    need_same (leb 1 (number_at s at)) 3 at _ _ λ e₂.
    need_same (leb (at + 4 + number_at s at) (length s)) 4 at _ _ λ e₃.
    ap (parts_before (part_at at (number_at s at) ∷ [])) (h (at + 4 + number_at s at) (omega arith) (leb-true _ _ e₃)))

boundaries_same : (s : List ℕ) (k j at : ℕ) → at ≤ length s → length s < at + k → length s < at + j → boundaries k s at ≡ boundaries j s at
unfolding boundaries
boundaries_same s zero j at h f g = absurd (omega arith)
boundaries_same s (suc k) zero at h f g = absurd (omega arith)
boundaries_same s (suc k) (suc j) at h f g = boundary_same s (boundaries k s) (boundaries j s) at λ m l l₂. boundaries_same s k j m l₂ (omega arith) (omega arith)

framing_next : (s : List ℕ) (at : ℕ) → at ≤ length s → framing_from s at ≡ boundary s (framing_from s) at
unfolding framing_from boundaries
framing_next s at h = boundary_same s (boundaries (length s) s) (boundaries (suc (length s)) s) at λ m l l₂. boundaries_same s (length s) (suc (length s)) m l₂ (omega arith) (omega arith)

-- The same five cases, for the framing from a boundary on
module _ (s : List ℕ) (at : ℕ) (h : at ≤ length s) where
  pub from_pad : all_zero (drop at s) ≡ true → framing_from s at ≡ ok [] at
  from_pad z = framing_next s at h ∙ boundary_pad s (framing_from s) at z

  module _ (z : all_zero (drop at s) ≡ false) where
    pub from_few : length s < at + 4 → framing_from s at ≡ refuse 2 at
    from_few k = framing_next s at h ∙ boundary_few s (framing_from s) at z k

    pub from_zero : at + 4 ≤ length s → number_at s at ≡ 0 → framing_from s at ≡ refuse 3 at
    from_zero k n = framing_next s at h ∙ boundary_zero s (framing_from s) at z k n

    module _ (n : ℕ) (e : number_at s at ≡ n) (k : at + 4 ≤ length s) (l : 1 ≤ n) where
      pub from_long : length s < at + 4 + n → framing_from s at ≡ refuse 4 at
      from_long m = framing_next s at h ∙ boundary_long s (framing_from s) at z n e k l m

      pub from_entry : at + 4 + n ≤ length s → framing_from s at ≡ parts_before (part_at at n ∷ []) (framing_from s (at + 4 + n))
      from_entry m = framing_next s at h ∙ boundary_entry s (framing_from s) at z n e k l m

-- Past the section's end there is nothing more
pub from_beyond : (s : List ℕ) (at : ℕ) → length s < at → framing_from s at ≡ ok [] at
unfolding framing_from boundaries
from_beyond s at h = boundary_pad s (boundaries (length s) s) at (let h₁ : length s ≤ at = omega arith in rw (drop_of_length-le s h₁))

pub four_zero : (n : ℕ) → n < 4294967296 → n % 256 ≡ 0 → n / 256 % 256 ≡ 0 → n / 65536 % 256 ≡ 0 → n / 16777216 % 256 ≡ 0 → n ≡ 0
four_zero n h a b c d = sym (number_four n h) ∙ rw (a, b, c, d)

-- The bytes of a length other than 0 are not all zero
pub four_not_zero : (n : ℕ) (r : List ℕ) → 1 ≤ n → n < 4294967296 → all_zero (four n ++ r) ≡ false
four_not_zero n r h k = not_true _ λ e.
    let (a, e₁) = (and-eq-true_iff _ _).0 e in
    let (b, e₂) = (and-eq-true_iff _ _).0 e₁ in
    let (c, e₃) = (and-eq-true_iff _ _).0 e₂ in
    let (d, e₄) = (and-eq-true_iff _ _).0 e₃ in
    let z : n ≡ 0 = four_zero n k (eqb-true _ 0 a) (eqb-true _ 0 b) (eqb-true _ 0 c) (eqb-true _ 0 d) in
    omega arith

-- An entry at a boundary
pub record EntryAt (s : List ℕ) (at : ℕ) (x r : List ℕ) : Type 0 where
  pub number : number_at s at ≡ length x
  pub inside : at + 4 + length x ≤ length s
  pub payload : drop (at + 4) s ≡ x ++ r
  pub after : drop (at + 4 + length x) s ≡ r
  pub frames : framing_from s at ≡ parts_before (part_at at (length x) ∷ []) (framing_from s (at + 4 + length x))

pub entry_at : (s : List ℕ) (at : ℕ) (x r : List ℕ) → at ≤ length s → 1 ≤ length x → length x < 4294967296 → drop at s ≡ four (length x) ++ (x ++ r) → EntryAt s at x r
entry_at s at x r h f f₂ g =
    let d : drop (at + 4) s ≡ x ++ r = rest_after s at (four (length x)) _ g in
    let (l, n) = four_complete s at (at + 4) (length x) f₂ (rw d g) in
    let h₁ : at + 4 + length x ≤ length s = omega (arith, f, ap length d, length-append x r, length-drop (at + 4) s) in
    record {
      number = n;
      inside = h₁;
      payload = d;
      after = rest_after s (at + 4) x r d;
      frames = from_entry s at h (rw g (four_not_zero (length x) (x ++ r) f f₂)) (length x) n (leb-true _ _ l) f h₁;
    }

none_before : (g : Parts) → parts_before [] g ≡ g
none_before (ok qs end) = refl
none_before (refuse n p) = refl

one_before : (p : Part) (ps : List Part) (g : Parts) → parts_before (p ∷ []) (parts_before ps g) ≡ parts_before (p ∷ ps) g
one_before p ps (ok qs end) = refl
one_before p ps (refuse n q) = refl

-- Past the entries at a boundary
pub framing_past : (s : List ℕ) (xs : List (List ℕ)) (at : ℕ) (r : List ℕ) → Framable xs → at ≤ length s → drop at s ≡ framed xs ++ r → framing_from s at ≡ parts_before (parts_of at xs) (framing_from s (at + length (framed xs)))
framing_past s [] at r f h e = rw add-zero (sym (none_before (framing_from s at)))
framing_past s (x ∷ xs) at r f h e =
    let i = entry_at s at x (framed xs ++ r) h f.0 f.1 (simp append_assoc at e) in
    let ends : at + 4 + length x + length (framed xs) ≡ at + length (framed (x ∷ xs)) = omega (arith, length-append x (framed xs)) in
    i.frames
    ∙ ap (parts_before (part_at at (length x) ∷ [])) (framing_past s xs (at + 4 + length x) r f.2 i.inside i.after)
    ∙ one_before (part_at at (length x)) (parts_of (at + 4 + length x) xs) (framing_from s (at + 4 + length x + length (framed xs)))
    ∙ ap (λ (m : ℕ). parts_before (parts_of at (x ∷ xs)) (framing_from s m)) ends

-- Entries and padding are what the framing finds
pub framing_complete : (s : List ℕ) (xs : List (List ℕ)) (m : ℕ) → Framable xs → s ≡ framed xs ++ replicate m 0 → framing s ≡ ok (parts_of 0 xs) (length (framed xs))
framing_complete s xs m f e =
    let h : length (framed xs) ≤ length s = omega (arith, ap length e, length-append (framed xs) (replicate m 0)) in
    let d : drop (length (framed xs)) s ≡ replicate m 0 = rw e (drop-append_seam (framed xs) (replicate m 0)) in
    framing_start s ∙ framing_past s xs 0 (replicate m 0) f (omega arith) e
    ∙ rw (zero-add, from_pad s (length (framed xs)) h (rw d (all_zero_complete m)), append-nil)

pub framing_sound : (s : List ℕ) → Bytes s → All (FramedAs s 0) (framing s)
framing_sound s u = rw (framing_start s) (framed_as s u 0 (omega arith))
