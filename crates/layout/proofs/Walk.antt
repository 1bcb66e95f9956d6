-- The reading of a layout from any source, by induction on the layout: what it returns is a proper value whose leaves are there
-- (sound), and it returns any proper value whose leaves are there (complete).
use Prim.Native.Nat.{ℕ}
use mathlib.Core.Bool.{Bool, true, false}
use mathlib.Core.List.{List, [], ◌∷◌, ◌++◌}
use mathlib.Core.Path.{◌≡◌, refl, ap, subst}
use Rattle.layout.specs.Layout.{Sort, Leaf, plain, string, Fault, Verdict, fine, wrong, refusal_of, Layout, nothing, one, text, ◌then◌, case, check, Value, leaves, values_of, Meets}
use Rattle.layout.specs.Reading.{Outcome, ok, refuse, ◌>>=◌, need, judged, Source, walk}

-- P holds of what is read, unless it is refused
pub data All {S A : Type 0} (P : A → S → Type 0) : Outcome S A → Type 0 where
  given : {a : A} {st : S} → P a st → All P (ok a st)
  refused : {n p : ℕ} → All P (refuse n p)

module _ {S A : Type 0} where
  pub all_bind : {B : Type 0} {P : A → S → Type 0} {Q : B → S → Type 0} (m : Outcome S A) (f : A → S → Outcome S B) → All P m → ((a : A) (st : S) → P a st → All Q (f a st)) → All Q (m >>= f)
  all_bind m f (given {a} {st} h) k = k a st h
  all_bind m f refused k = refused

  pub all_need : {P : A → S → Type 0} (b : Bool) (n p : ℕ) (rest : Outcome S A) → (b ≡ true → All P rest) → All P (need b n p rest)
  all_need true n p rest k = k refl
  all_need false n p rest k = refused

  pub all_judged : {P : A → S → Type 0} (v : Verdict) (p : ℕ) (rest : Outcome S A) → (v ≡ fine → All P rest) → All P (judged v p rest)
  all_judged fine p rest k = k refl
  all_judged (wrong f) p rest k = refused

  holds : {P : A → S → Type 0} {a : A} {st : S} → All P (ok a st) → P a st
  holds (given h) = h

  pub all_ok : {P : A → S → Type 0} {m : Outcome S A} {a : A} {st : S} → All P m → m ≡ ok a st → P a st
  all_ok {P} h e = holds (subst (All P) e h)

  pub all_when : {P : A → S → Type 0} (m : Outcome S A) → ((a : A) (st : S) → m ≡ ok a st → P a st) → All P m
  all_when (ok a st) k = given (k a st refl)
  all_when (refuse n p) k = refused

-- Q holds of the refusal, if it is one
pub data Fails {S A : Type 0} (Q : ℕ → ℕ → Type 0) : Outcome S A → Type 0 where
  good : {a : A} {st : S} → Fails Q (ok a st)
  bad : {n p : ℕ} → Q n p → Fails Q (refuse n p)

module _ {S A : Type 0} {Q : ℕ → ℕ → Type 0} where
  pub fails_bind : {B : Type 0} {P : A → S → Type 0} (m : Outcome S A) (f : A → S → Outcome S B) → All P m → Fails Q m → ((a : A) (st : S) → P a st → Fails Q (f a st)) → Fails Q (m >>= f)
  fails_bind m f (given {a} {st} h) q k = k a st h
  fails_bind m f refused (bad q) k = bad q

  pub fails_need : (b : Bool) (n p : ℕ) (rest : Outcome S A) → (b ≡ false → Q n p) → (b ≡ true → Fails Q rest) → Fails Q (need b n p rest)
  fails_need true n p rest q k = k refl
  fails_need false n p rest q k = bad (q refl)

  pub fails_judged : (v : Verdict) (p : ℕ) (rest : Outcome S A) → ((f : Fault) → v ≡ wrong f → Q (refusal_of f) p) → (v ≡ fine → Fails Q rest) → Fails Q (judged v p rest)
  fails_judged fine p rest q k = k refl
  fails_judged (wrong f) p rest q k = bad (q f refl)

  pub fails_map : {R : ℕ → ℕ → Type 0} {m : Outcome S A} → Fails Q m → ((n p : ℕ) → Q n p → R n p) → Fails R m
  fails_map good k = good
  fails_map (bad {n} {p} q) k = bad (k n p q)

  pub fails_refuse : {n p : ℕ} {m : Outcome S A} → Fails Q m → m ≡ refuse n p → Q n p
  fails_refuse {n} {p} {m} h e = go (rw e at h)
    where
      go : Fails {S = S} {A = A} Q (refuse n p) → Q n p
      go (bad q) = q

-- What a source must guarantee: `Begins st ls end` means that the leaves ls are at st and end at `end`
pub record Sound (S : Source) (F : Leaf → Type 0) (Begins : S.Position → List Leaf → S.Position → Type 0) : Type 0 where
  pub none : (st : S.Position) → Begins st [] st
  pub join : {st m end : S.Position} (a b : List Leaf) → Begins st a m → Begins m b end → Begins st (a ++ b) end
  pub plainly : (srt : Sort) (st : S.Position) → All (λ n end. F (plain srt n) × Begins st (plain srt n ∷ []) end) (S.take_plain srt st)
  pub textly : (st : S.Position) → All (λ t end. F (string t) × Begins st (string t ∷ []) end) (S.take_text st)

pub record Complete (S : Source) (F : Leaf → Type 0) (Begins : S.Position → List Leaf → S.Position → Type 0) : Type 0 where
  pub none : {st end : S.Position} → Begins st [] end → st ≡ end
  pub part : {st end : S.Position} (a b : List Leaf) → Begins st (a ++ b) end → (m : S.Position) × Begins st a m × Begins m b end
  pub plainly : {st end : S.Position} (srt : Sort) (n : ℕ) → F (plain srt n) → Begins st (plain srt n ∷ []) end → S.take_plain srt st ≡ ok n end
  pub textly : {st end : S.Position} (t : List ℕ) → F (string t) → Begins st (string t ∷ []) end → S.take_text st ≡ ok t end

module _ (S : Source) (F : Leaf → Type 0) (Begins : S.Position → List Leaf → S.Position → Type 0) where
  pub sound : Sound S F Begins → (L : Layout) (st : S.Position) → All (λ v end. Meets F L v × Begins st (leaves L v) end) (walk S L st)
  unfolding walk
  sound k nothing st = given (tt, k.none st)
  sound k (one srt) st = k.plainly srt st
  sound k text st = k.textly st
  sound k (A then B) st =
      all_bind (walk S A st) _ (sound k A st) λ a st₁ p.
      all_bind (walk S B st₁) _ (sound k B st₁) λ b st₂ q.
      given ((p.0, q.0), k.join (leaves A a) (leaves B b) p.1 q.1)
  sound k (case srt A j B) st =
      all_bind (S.take_plain srt st) _ (k.plainly srt st) λ n st₁ p.
      all_bind (walk S A st₁) _ (sound k A st₁) λ a st₂ q.
      all_judged (j n) (S.place st) _ λ e.
      all_bind (walk S (B n) st₂) _ (sound k (B n) st₂) λ b st₃ r.
      given ((p.0, q.0, e, r.0), k.join (plain srt n ∷ []) _ p.1 (k.join (leaves A a) (leaves (B n) b) q.1 r.1))
  sound k (check A j) st =
      all_bind (walk S A st) _ (sound k A st) λ a st₁ p.
      all_judged (j (values_of (leaves A a))) (S.place st) _ λ e.
      given ((p.0, e), p.1)

  pub complete : Complete S F Begins → (L : Layout) (v : Value L) {st end : S.Position} → Meets F L v → Begins st (leaves L v) end → walk S L st ≡ ok v end
  unfolding walk
  complete k nothing v p h = ap (ok tt) (k.none h)
  complete k (one srt) n p h = k.plainly srt n p h
  complete k text t p h = k.textly t p h
  complete k (A then B) v p h =
      let (m, h₁, h₂) = k.part (leaves A v.0) (leaves B v.1) h in
      rw (complete k A v.0 p.0 h₁, complete k B v.1 p.1 h₂)
  complete k (case srt A j B) v p h =
      let (m, h₁, h₂) = k.part (plain srt v.0 ∷ []) (leaves A v.1 ++ leaves (B v.0) v.2) h in
      let (m₂, h₃, h₄) = k.part (leaves A v.1) (leaves (B v.0) v.2) h₂ in
      rw (k.plainly srt v.0 p.0 h₁, complete k A v.1 p.1 h₃, p.2, complete k (B v.0) v.2 p.3 h₄)
  complete k (check A j) v p h = rw (complete k A v p.0 h, p.1)

pub meets_map : {F G : Leaf → Type 0} → ((x : Leaf) → F x → G x) → (L : Layout) (v : Value L) → Meets F L v → Meets G L v
meets_map k nothing v p = tt
meets_map k (one srt) n p = k (plain srt n) p
meets_map k text t p = k (string t) p
meets_map k (A then B) v p = (meets_map k A v.0 p.0, meets_map k B v.1 p.1)
meets_map k (case srt A j B) v p = (k (plain srt v.0) p.0, meets_map k A v.1 p.1, p.2, meets_map k (B v.0) v.2 p.3)
meets_map k (check A j) v p = (meets_map k A v p.0, p.1)
