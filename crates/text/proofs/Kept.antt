-- Character boundaries: the greatest at or below a number, and how a byte shows one.
use Rattle.std.proofs.Common.{◌≡◌, ℕ, zero, suc, ◌-◌, ◌<◌, ◌≤◌, Bool, true, false, cond, not, eqb, leb, ◌↔◌, List, ◌∷◌, ◌++◌, length, get_or, take, drop, sym, refl, ap, ◌∙◌, subst, zero-le, arith, length-append, length-take-le, eqb-true, le-leb, leb-true}
use mathlib.Core.Bool.{and-eq-true_iff, false≢true}
use lib.Seq.{take-length, take-append_seam, split_at}
use borrow.Author.Tests.{lt-leb, eqb-false}
use Rattle.text.specs.Rfc3629.{tail, Utf8, none}
use Rattle.text.specs.Walk.{State, start, tail_1, tail_2, tail_3, after_e0, after_ed, after_f0, after_f4, failed, transitions, within, step, wanted_after, accepting, utf8}
use Rattle.text.specs.Kept.{most_kept, CharBoundary, ServerKeeps, is_boundary, boundary_up_to, kept_length, TextAnswer, text_kept, no_text, check_text, ExactCheck}
use Rattle.text.specs.Theorems.{KeptExact, KeptWhole, KeptLongest, CheckExact}
use Rattle.text.proofs.Exact.{inside, above, Wants, followed, wanted, wanted_append, utf8_exact}

-- A boundary's test and its meaning
boundary_found : (t : List ℕ) (k : ℕ) → is_boundary t k ≡ true → CharBoundary t k
boundary_found t k e =
    let both = (and-eq-true_iff (leb k (length t)) (utf8 (take k t))).0 e in
    record { inside = leb-true k (length t) both.0; before = (utf8_exact (take k t)).0 both.1 }

boundary_tested : (t : List ℕ) (k : ℕ) → CharBoundary t k → is_boundary t k ≡ true
boundary_tested t k b = rw (le-leb k (length t) b.inside, (utf8_exact (take k t)).1 b.before)

-- k is the greatest boundary at or below n
record Greatest (t : List ℕ) (n k : ℕ) : Type 0 where
  boundary : CharBoundary t k
  small : k ≤ n
  greatest : (j : ℕ) → CharBoundary t j → j ≤ n → j ≤ k

-- One step down, from a place that is no boundary
pub boundary_below : (t : List ℕ) (n : ℕ) → is_boundary t (suc n) ≡ false → boundary_up_to t (suc n) ≡ boundary_up_to t n
unfolding boundary_up_to
boundary_below t n e = rw e

-- And from one that is
pub boundary_here : (t : List ℕ) (n : ℕ) → is_boundary t n ≡ true → boundary_up_to t n ≡ n
unfolding boundary_up_to
boundary_here t zero e = refl
boundary_here t (suc n) e = rw e

up_to_greatest : (t : List ℕ) (n : ℕ) → Greatest t n (boundary_up_to t n)
unfolding boundary_up_to
up_to_greatest t zero = record { boundary = record { inside = zero-le; before = none }; small = zero-le; greatest = λ j b h. h }
up_to_greatest t (suc n) = go (is_boundary t (suc n)) refl (up_to_greatest t n)
  where
    go : (x : Bool) → is_boundary t (suc n) ≡ x → Greatest t n (boundary_up_to t n) → Greatest t (suc n) (cond x (suc n) (boundary_up_to t n))
    go true e g = record { boundary = boundary_found t (suc n) e; small = omega arith; greatest = λ j b h. h }
    go false e g = record { boundary = g.boundary; small = omega (arith, g.small); greatest = λ j b h. below j b h (eqb j (suc n)) refl }
      where
        below : (j : ℕ) → CharBoundary t j → j ≤ suc n → (x : Bool) → eqb j (suc n) ≡ x → j ≤ boundary_up_to t n
        below j b h true x = absurd (false≢true (sym e ∙ boundary_tested t (suc n) (subst (CharBoundary t) (eqb-true j (suc n) x) b)))
        below j b h false x = g.greatest j b (omega (arith, h, eqb-false j (suc n) x))

kept_greatest : (t : List ℕ) → ServerKeeps t (kept_length t)
unfolding kept_length
kept_greatest t =
    let g = up_to_greatest t most_kept in
    record { boundary = g.boundary; small = g.small; greatest = g.greatest }

-- Only one number is the greatest
kept_one : (t : List ℕ) (j k : ℕ) → ServerKeeps t j → ServerKeeps t k → j ≡ k
kept_one t j k a b = omega (arith, a.greatest k b.boundary b.small, b.greatest j a.boundary a.small)

pub kept_exact : KeptExact
kept_exact t k = (λ e. rw e (kept_greatest t), λ s. kept_one t k (kept_length t) s (kept_greatest t))

pub kept_whole : KeptWhole
kept_whole t u h =
    let b : CharBoundary t (length t) = record { inside = omega arith; before = rw (take-length t) u } in
    sym ((kept_exact t (length t)).1 (record { boundary = b; small = h; greatest = λ j c l. c.inside }))

pub kept_longest : KeptLongest
kept_longest t =
    let s = kept_greatest t in
    let l = length-take-le (kept_length t) t s.boundary.inside in
    (s.boundary.before, omega (arith, l, s.small), λ first rest e u h. longest s l first rest e u h)
  where
    longest : ServerKeeps t (kept_length t) → length (take (kept_length t) t) ≡ kept_length t → (first rest : List ℕ) → t ≡ first ++ rest
        → Utf8 first → length first ≤ most_kept → length first ≤ length (take (kept_length t) t)
    longest s l first rest e u h =
        let b : CharBoundary t (length first) = record { inside = rw e (omega (arith, length-append first rest)); before = rw (e, take-append_seam first rest) u } in
        omega (arith, l, s.greatest (length first) b h)

pub check_exact : CheckExact
unfolding check_text
check_exact t a = go (utf8 t) refl
  where
    go : (b : Bool) → utf8 t ≡ b → (a ≡ cond b (text_kept (kept_length t)) no_text) ↔ ExactCheck t a
    go true e = (λ q. rw q ((utf8_exact t).0 e, kept_greatest t), yes a)
      where
        yes : (a : TextAnswer) → ExactCheck t a → a ≡ text_kept (kept_length t)
        yes (text_kept k) (u, s) = ap text_kept ((kept_exact t k).1 s)
        yes no_text n = absurd (n ((utf8_exact t).0 e))
    go false e = (λ q. rw q (λ u. false≢true (sym e ∙ (utf8_exact t).1 u)), no a)
      where
        no : (a : TextAnswer) → ExactCheck t a → a ≡ no_text
        no (text_kept k) (u, s) = absurd (false≢true (sym e ∙ (utf8_exact t).1 u))
        no no_text n = refl

-- An answer by the tests is an answer by the grammar
pub told_both : (t : List ℕ) (a : TextAnswer) → a ≡ check_text t → (a ≡ check_text t) × ExactCheck t a
told_both t a e = (e, (check_exact t a).0 e)

-- Where a walk that can still succeed stands at the start of a character, the next byte continues none, and elsewhere it does
low : (b : ℕ) → b ≤ 0x7F → true ≡ not (within tail b)
low b h = rw (lt-leb 0x80 b (omega arith))

high : (b : ℕ) → 0xC2 ≤ b → true ≡ not (within tail b)
high b h = rw (above 0x80 0xBF b (omega arith))

continues : (b : ℕ) → 0x80 ≤ b → b ≤ 0xBF → false ≡ not (within tail b)
continues b h k = rw (inside tail b (h, k))

next_byte : (q : State) (b : ℕ) (l : List ℕ) → Wants (step q b) l → accepting q ≡ not (within tail b)
unfolding step
next_byte start b l =
    followed (transitions start) b l (true ≡ not (within tail b)) (
      λ i w. low b i.1,
      (
        λ i w. high b i.0,
        (
          λ i w. high b (omega (arith, i.0)),
          (
            λ i w. high b (omega (arith, i.0)),
            (
              λ i w. high b (omega (arith, i.0)),
              (
                λ i w. high b (omega (arith, i.0)),
                (
                  λ i w. high b (omega (arith, i.0)),
                  (
                    λ i w. high b (omega (arith, i.0)),
                    (
                      λ i w. high b (omega (arith, i.0)),
                      tt,
                    ),
                  ),
                ),
              ),
            ),
          ),
        ),
      ),
    )
next_byte tail_1 b l = followed (transitions tail_1) b l (false ≡ not (within tail b)) (λ i w. continues b i.0 i.1, tt)
next_byte tail_2 b l = followed (transitions tail_2) b l (false ≡ not (within tail b)) (λ i w. continues b i.0 i.1, tt)
next_byte tail_3 b l = followed (transitions tail_3) b l (false ≡ not (within tail b)) (λ i w. continues b i.0 i.1, tt)
next_byte after_e0 b l = followed (transitions after_e0) b l (false ≡ not (within tail b)) (λ i w. continues b (omega (arith, i.0)) i.1, tt)
next_byte after_ed b l = followed (transitions after_ed) b l (false ≡ not (within tail b)) (λ i w. continues b i.0 (omega (arith, i.1)), tt)
next_byte after_f0 b l = followed (transitions after_f0) b l (false ≡ not (within tail b)) (λ i w. continues b (omega (arith, i.0)) i.1, tt)
next_byte after_f4 b l = followed (transitions after_f4) b l (false ≡ not (within tail b)) (λ i w. continues b i.0 (omega (arith, i.1)), tt)
next_byte failed b l = λ w. absurd w

-- A place in a text is a boundary if the byte there continues no character
pub shown : (t : List ℕ) (k : ℕ) → utf8 t ≡ true → k < length t → is_boundary t k ≡ not (within tail (get_or t k 0))
shown t k e h =
    let b = get_or t k 0 in
    let q = wanted_after start (take k t) in
    let parts : wanted_after start t ≡ wanted_after (step q b) (drop (suc k) t) = ap (wanted_after start) (split_at t k 0 h) ∙ wanted_append start (take k t) (b ∷ drop (suc k) t) in
    let w = wanted (drop (suc k) t) (step q b) (ap accepting (sym parts) ∙ e) in
    rw (le-leb k (length t) (omega (arith, h))) (next_byte q b (drop (suc k) t) w)

-- The search for the greatest boundary, from 63 down
pub kept_up_to : (t : List ℕ) → kept_length t ≡ boundary_up_to t most_kept
unfolding kept_length
kept_up_to t = refl

module _ (t : List ℕ) (k : ℕ) (u : utf8 t ≡ true) (h : k < length t) (r : Bool) (e : r ≡ within tail (get_or t k 0)) where
  pub lower : 0 < k → r ≡ true → boundary_up_to t k ≡ boundary_up_to t (k - 1)
  lower n y =
      let z : k ≡ suc (k - 1) = omega arith in
      let b : is_boundary t (suc (k - 1)) ≡ false = rw z at (shown t k u h ∙ ap not (sym e ∙ y)) in
      ap (boundary_up_to t) z ∙ boundary_below t (k - 1) b

  pub reached : r ≡ false → boundary_up_to t k ≡ k
  reached n = boundary_here t k (shown t k u h ∙ ap not (sym e ∙ n))

-- The answer of the check, from its parts
pub no_answer : (t : List ℕ) → utf8 t ≡ false → check_text t ≡ no_text
unfolding check_text
no_answer t e = rw e

pub kept_answer : (t : List ℕ) → utf8 t ≡ true → check_text t ≡ text_kept (kept_length t)
unfolding check_text
kept_answer t e = rw e

-- What an answer tells of the bytes
pub answer_not : (t : List ℕ) → no_text ≡ check_text t → utf8 t ≡ false
answer_not t e = go (utf8 t) refl
  where
    go : (b : Bool) → utf8 t ≡ b → b ≡ false
    go true u = absurd ((check_exact t no_text).0 e ((utf8_exact t).0 u))
    go false u = refl

pub answer_kept : (t : List ℕ) (k : ℕ) → text_kept k ≡ check_text t → (utf8 t ≡ true) × (k ≡ kept_length t) × (k ≤ most_kept)
answer_kept t k e =
    let (u, s) = (check_exact t (text_kept k)).0 e in
    ((utf8_exact t).1 u, (kept_exact t k).1 s, s.small)
