-- The framing refuses exactly under the condition of its refusal.
use Prim.Native.Nat.{ℕ, zero, suc, ◌+◌, ◌-◌, ◌≤◌, ◌<◌}
use native.Mathlib.Nat.{zero-add}
use native.Mathlib.Omega.{arith}
use mathlib.Core.Bool.{Bool, true, false, cond}
use mathlib.Core.List.{List, [], ◌∷◌, ◌++◌}
use mathlib.Core.Path.{◌≡◌, refl, sym, ap, subst, ◌∙◌}
use lib.Dec.{leb, ltb}
use lib.ListN.{length, drop, length-append, drop_of_length-le}
use borrow.Author.Tests.{leb-true, leb-false, ltb-true, ltb-false, le-leb, lt-leb}
use Rattle.layout.specs.Layout.{Number, one}
use Rattle.layout.specs.Written.{four, Stand}
use Rattle.layout.specs.BadReads.{Stands}
use Rattle.layout.specs.Reading.{Outcome, ok, refuse, number_at}
use Rattle.layout.specs.Answers.{limit}
use Rattle.layout.specs.Theorems.{Bytes}
use Rattle.layout.proofs.Walk.{All, given, all_bind, all_need, all_ok, Fails, good, fails_bind, fails_need, fails_map, fails_refuse}
use Rattle.layout.proofs.InBytes.{four_sound, four_complete, number_small}
use Rattle.framing.specs.Framing.{all_zero, boundary, boundaries, framing_from, framing}
use Rattle.framing.specs.Entries.{framed}
use Rattle.framing.specs.Refusals.{Boundary, BadBoundary, few_remain, length_zero, length_long, FramingRefusal, too_long, bad_boundary, WholeFraming}
use Rattle.framing.specs.Answers.{end_of, framing_end, entry_payloads, ExactFraming}
use Rattle.framing.specs.Theorems.{FramingExact}
use Rattle.framing.proofs.Framing.{Span, span_none, span_more, boundaries_sound, framing_start, framing_past, framing_complete, framing_sound, non_zero, not_all_zero, from_few, from_zero, from_long, four_not_zero}

pub fails_cond : {S A : Type 0} {Q : ℕ → ℕ → Type 0} (b : Bool) (x y : Outcome S A) → Fails Q x → (b ≡ false → Fails Q y) → Fails Q (cond b x y)
fails_cond true x y h k = h
fails_cond false x y h k = k refl

-- The first bad boundary from a place on, with the payloads before it
record BadFrom (s : List ℕ) (at n p : ℕ) : Type 0 where
  before : List (List ℕ)
  span : Span s at before p
  is : BadBoundary s p n

bad_here : (s : List ℕ) (at n : ℕ) → BadBoundary s at n → BadFrom s at n at
bad_here s at n b = record { before = []; span = span_none s at; is = b }

some_left : (s : List ℕ) (at : ℕ) → all_zero (drop at s) ≡ false → at < length s
some_left s at z = go (ltb at (length s)) refl
  where
    go : (b : Bool) → ltb at (length s) ≡ b → at < length s
    go true e = ltb-true _ _ e
    go false e =
        let d : drop at s ≡ [] = drop_of_length-le s (ltb-false _ _ e) in
        let t : true ≡ false = rw d at z in
        let w : ◌≡◌ {A = ℕ} 0 1 = cc in
        absurd (omega arith)

-- A length, as bytes and as a number
number_there : (s : List ℕ) → Bytes s → (at : ℕ) → at + 4 ≤ length s → Stands s (one Number) at (number_at s at) (at + 4)
number_there s u at h = record { proper = number_small s u at h; there = (four_sound s u at h, refl) }

length_is : (s : List ℕ) (at n m : ℕ) → n < 4294967296 → Stand s at (four n) m → (at + 4 ≤ length s) × (number_at s at ≡ n)
length_is s at n m h d = let (e, q) = four_complete s at m n h d.0 in (leb-true _ _ e, q)

bad_after : (s : List ℕ) (at l : ℕ) {n p : ℕ} → at + 4 + l ≤ length s → 1 ≤ l → l < 4294967296 → drop at s ≡ four l ++ drop (at + 4) s → BadFrom s (at + 4 + l) n p → BadFrom s at n p
bad_after s at l h h₁ h₂ e r =
    let (x, lx, more) = span_more s at l h h₁ h₂ e r.span in
    record { before = x ∷ r.before; span = more; is = r.is }

boundaries_bad : (s : List ℕ) → Bytes s → (k at : ℕ) → at ≤ length s → length s < at + k → Fails (BadFrom s at) (boundaries k s at)
unfolding boundaries boundary
boundaries_bad s u zero at h f = absurd (omega arith)
boundaries_bad s u (suc k) at h f =
    fails_cond (all_zero (drop at s)) _ _ good λ z.
    fails_need (leb (at + 4) (length s)) 2 at _ (λ e. bad_here s at 2 (few_remain (some_left s at z) (leb-false _ _ e) (non_zero s at z))) λ e₁.
    fails_need (leb 1 (number_at s at)) 3 at _ (λ e. bad_here s at 3 (zero_there (leb-true _ _ e₁) (omega (arith, leb-false 1 (number_at s at) e)) z)) λ e₂.
    fails_need (leb (at + 4 + number_at s at) (length s)) 4 at _ (λ e. bad_here s at 4 (length_long (number_there s u at (leb-true _ _ e₁)) (leb-false _ _ e))) λ e₃.
    let h₁ : at + 4 ≤ length s = leb-true (at + 4) (length s) e₁ in
    let h₂ : 1 ≤ number_at s at = leb-true 1 (number_at s at) e₂ in
    let h₃ : at + 4 + number_at s at ≤ length s = leb-true (at + 4 + number_at s at) (length s) e₃ in
    fails_bind (boundaries k s (at + 4 + number_at s at)) _ (boundaries_sound s u k (at + 4 + number_at s at) h₃ (omega arith))
    (fails_map (boundaries_bad s u k (at + 4 + number_at s at) h₃ (omega arith)) λ n p r. bad_after s at (number_at s at) h₃ h₂ (number_small s u at h₁) (four_sound s u at h₁) r)
    λ ps end r. good
  where
    zero_there : at + 4 ≤ length s → number_at s at ≡ 0 → all_zero (drop at s) ≡ false → BadBoundary s at 3
    zero_there i n z =
        let d : drop at s ≡ four 0 ++ drop (at + 4) s = rw n at (four_sound s u at i) in
        length_zero {m = at + 4} (d, refl) (non_zero s (at + 4) (rw d at z))

-- The framing refuses only at a bad boundary
pub framing_bad : (s : List ℕ) → Bytes s → Fails (λ n p. Boundary s p × BadBoundary s p n) (framing s)
unfolding framing framing_from
framing_bad s u =
    fails_map (boundaries_bad s u (suc (length s)) 0 (omega arith) (omega arith)) λ n p r.
    (record { before = r.before; framable = r.span.framable; there = r.span.there; ends = omega (arith, r.span.ends) }, r.is)

-- And always at a bad boundary
boundary_refuses : (s : List ℕ) → Bytes s → (at n : ℕ) → at ≤ length s → BadBoundary s at n → framing_from s at ≡ refuse n at
boundary_refuses s u at n i (few_remain h k z) = from_few s at i (not_all_zero s at z) k
boundary_refuses s u at n i (length_zero {m} d z) =
    let (h, e) = length_is s at 0 m (omega arith) d in
    from_zero s at i (ap all_zero d.0 ∙ not_all_zero s m z) h e
boundary_refuses s u at n i (length_long {n = l} {m} d k) =
    let (h, e) = length_is s at l m d.proper d.there in
    from_long s at i (rw d.there.0 (four_not_zero l (drop m s) (omega (arith, d.there.1)) d.proper)) l e h (omega (arith, d.there.1)) (omega (arith, d.there.1))

pub framing_refuses : (s : List ℕ) → Bytes s → (n p : ℕ) → Boundary s p → BadBoundary s p n → framing s ≡ refuse n p
framing_refuses s u n p b f =
    let h : p ≤ length s = omega (arith, ap length b.there, length-append (framed b.before) (drop p s), b.ends) in
    framing_start s ∙ framing_past s b.before 0 (drop p s) b.framable (omega arith) b.there
    ∙ rw (zero-add, ← b.ends, boundary_refuses s u p n h f)

-- The framing alone
whole_framing : (s : List ℕ) → Bytes s → All (λ x end. (length s ≤ limit) × WholeFraming s end) (entry_payloads s)
unfolding entry_payloads framing_end
whole_framing s u =
    all_need (leb (length s) limit) 1 0 _ λ h.
    all_bind (framing s) _ (framing_sound s u) λ ps end f.
    given (leb-true _ _ h, record { payloads = f.payloads; padding = length s - end; framable = f.span.framable; there = f.span.there ∙ rw f.padding; ends = omega (arith, f.span.ends) })

framing_found : (s : List ℕ) (end : ℕ) → length s ≤ limit → WholeFraming s end → entry_payloads s ≡ ok tt end
unfolding entry_payloads framing_end
framing_found s end h w = rw (le-leb (length s) limit h, framing_complete s w.payloads w.padding w.framable w.there, w.ends)

framing_fails : (s : List ℕ) → Bytes s → Fails (FramingRefusal s) (entry_payloads s)
unfolding entry_payloads framing_end
framing_fails s u =
    fails_need (leb (length s) limit) 1 0 _ (λ e. too_long (leb-false _ _ e)) λ h.
    fails_bind (framing s) _ (framing_sound s u) (fails_map (framing_bad s u) λ n p r. bad_boundary (leb-true _ _ h) r.0 r.1) λ ps end f. good

framing_refused : (s : List ℕ) → Bytes s → {n p : ℕ} → FramingRefusal s n p → entry_payloads s ≡ refuse n p
unfolding entry_payloads framing_end
framing_refused s u (too_long h) = rw (lt-leb (length s) limit h)
framing_refused s u (bad_boundary {n = m} {p = q} h b f) = rw (le-leb (length s) limit h, framing_refuses s u m q b f)

pub exact_framing : FramingExact
exact_framing s u = record {
  whole = λ end. ((λ e. all_ok (whole_framing s u) e), λ h. framing_found s end h.0 h.1);
  refuses = λ n p. (fails_refuse (framing_fails s u), framing_refused s u);
}

pub framing_end_lem : (s : List ℕ) → end_of (framing_from s 0) ≡ framing_end s
unfolding framing_end framing
framing_end_lem s = refl

-- Both clauses of the contract, from the first: 1, or the result of the framing
module _ (s : List ℕ) (u : Bytes s) (o : Outcome ℕ (Unit {0})) where
  promised : o ≡ entry_payloads s → (o ≡ entry_payloads s) × ExactFraming s o
  promised e = (e, subst (ExactFraming s) (sym e) (exact_framing s u))

  pub framing_limit : limit < length s → o ≡ refuse 1 0 → (o ≡ entry_payloads s) × ExactFraming s o
  unfolding entry_payloads
  framing_limit h e = promised (e ∙ rw (lt-leb (length s) limit h))

  pub framing_alone : length s ≤ limit → o ≡ framing_end s → (o ≡ entry_payloads s) × ExactFraming s o
  unfolding entry_payloads
  framing_alone h e = promised (e ∙ rw (le-leb (length s) limit h))
