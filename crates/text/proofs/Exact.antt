-- The automaton decides RFC 3629's grammar, and a walk may be done in parts.
use Rattle.std.proofs.Common.{◌≡◌, ℕ, suc, ◌<◌, ◌≤◌, Bool, true, false, ◌&&◌, leb, ◌↔◌, List, [], ◌∷◌, ◌++◌, sym, refl, ap, ◌∙◌, subst, arith, le-leb, leb-true}
use mathlib.Core.Bool.{and-eq-true_iff, and-false, false≢true}
use mathlib.Core.List.{foldl-append}
use borrow.Author.Tests.{lt-leb}
use Rattle.text.specs.Rfc3629.{Range, ◌to◌, tail, In, Sequence, done, byte, Char, utf8_1, utf8_2, utf8_3_e0, utf8_3_e1, utf8_3_ed, utf8_3_ee, utf8_4_f0, utf8_4_f1, utf8_4_f4, Utf8, none, more}
use Rattle.text.specs.Walk.{State, start, tail_1, tail_2, tail_3, after_e0, after_ed, after_f0, after_f4, failed, Transition, ◌⇒◌, transitions, within, pick, follow, step, wanted_after, accepting, utf8}
use Rattle.text.specs.Theorems.{Utf8Exact, WantedAppend}

pub wanted_append : WantedAppend
wanted_append q l m = foldl-append step q l m

-- A range's test and its meaning
pub inside : (r : Range) (b : ℕ) → In r b → within r b ≡ true
inside (lo to hi) b i = simp (le-leb lo b i.0, le-leb b hi i.1)

pub above : (lo hi b : ℕ) → hi < b → within (lo to hi) b ≡ false
above lo hi b h = simp (lt-leb b hi h, and-false)

found : (r : Range) (b : ℕ) → within r b ≡ true → In r b
found (lo to hi) b e =
    let both = (and-eq-true_iff (leb lo b) (leb b hi)).0 e in
    (leb-true lo b both.0, leb-true b hi both.1)

-- The first half: what the grammar derives takes the automaton from start to start

-- x is one of the transitions
data Among (x : Transition) : List Transition → Type 0 where
  here : {xs : List Transition} → Among x (x ∷ xs)
  there : {y : Transition} {xs : List Transition} → Among x xs → Among x (y ∷ xs)

ruleset among = (here, there)

-- No range is empty, and each lies above those before it, the first at n or above
abbrev ascending : ℕ → List Transition → Bool
ascending n [] = true
ascending n (lo to hi ⇒ q ∷ xs) = leb n lo && (leb lo hi && ascending (suc hi) xs)

-- Of ascending ranges, the one that contains the byte is followed, and the byte is at least n
taken : {lo hi : ℕ} {q : State} {xs : List Transition} (n b : ℕ) → ascending n xs ≡ true → Among (lo to hi ⇒ q) xs → In (lo to hi) b → (follow xs b ≡ q) × (n ≤ b)
taken {lo} {hi} {q} n b up (here {xs = xs}) i =
    let low = ((and-eq-true_iff (leb n lo) (leb lo hi && ascending (suc hi) xs)).0 up).0 in
    (simp (inside (lo to hi) b i), omega (arith, leb-true n lo low))
taken n b up (there {y = l to h ⇒ p} {xs = xs} m) i =
    let first = (and-eq-true_iff (leb n l) (leb l h && ascending (suc h) xs)).0 up in
    let next = (and-eq-true_iff (leb l h) (ascending (suc h) xs)).0 first.1 in
    let rest = taken (suc h) b next.1 m i in
    (simp (above l h b rest.1) rest.0, omega (arith, leb-true n l first.0, leb-true l h next.0, rest.1))

transitions_ascend : (q : State) → ascending 0 (transitions q) ≡ true
transitions_ascend start = refl
transitions_ascend tail_1 = refl
transitions_ascend tail_2 = refl
transitions_ascend tail_3 = refl
transitions_ascend after_e0 = refl
transitions_ascend after_ed = refl
transitions_ascend after_f0 = refl
transitions_ascend after_f4 = refl
transitions_ascend failed = refl

-- A byte of a transition's range takes it
stepped : (q : State) (b : ℕ) {p : State} {r : Range} → Among (r ⇒ p) (transitions q) → In r b → step q b ≡ p
unfolding step
stepped q b {r = lo to hi} m i = (taken 0 b (transitions_ascend q) m i).0

pub ascii_step : (b : ℕ) → b < 128 → step start b ≡ start
ascii_step b h = stepped start b here (omega arith)

-- Transitions over the ranges in order, from a state to start
data Route : State → List Range → Type 0 where
  end : Route start []
  by : {q : State} (p : State) {r : Range} {rs : List Range} → Among (r ⇒ p) (transitions q) → Route p rs → Route q (r ∷ rs)

route_runs : {q : State} {rs : List Range} {c : List ℕ} → Route q rs → Sequence rs c → wanted_after q c ≡ start
route_runs end done = refl
route_runs (by {q = q} p m w) (byte {b = b} {c = c} i bs) = ap (λ (p : State). wanted_after p c) (stepped q b m i) ∙ route_runs w bs

route_1 : Route tail_1 (tail ∷ [])
route_1 = by start here end

route_2 : Route tail_2 (tail ∷ tail ∷ [])
route_2 = by tail_1 here route_1

route_3 : Route tail_3 (tail ∷ tail ∷ tail ∷ [])
route_3 = by tail_2 here route_2

char_runs : {c : List ℕ} → Char c → wanted_after start c ≡ start
char_runs (utf8_1 bs) = route_runs (by start here end) bs
char_runs (utf8_2 bs) = route_runs (by tail_1 (search among) route_1) bs
char_runs (utf8_3_e0 bs) = route_runs (by after_e0 (search among) (by tail_1 here route_1)) bs
char_runs (utf8_3_e1 bs) = route_runs (by tail_2 (search among) route_2) bs
char_runs (utf8_3_ed bs) = route_runs (by after_ed (search among) (by tail_1 here route_1)) bs
char_runs (utf8_3_ee bs) = route_runs (by tail_2 (search among depth 9) route_2) bs
char_runs (utf8_4_f0 bs) = route_runs (by after_f0 (search among depth 9) (by tail_2 here route_2)) bs
char_runs (utf8_4_f1 bs) = route_runs (by tail_3 (search among depth 9) route_3) bs
char_runs (utf8_4_f4 bs) = route_runs (by after_f4 (search among depth 9) (by tail_2 here route_2)) bs

chars_run : {l : List ℕ} → Utf8 l → wanted_after start l ≡ start
chars_run none = refl
chars_run (more {c = c} {l = l} h r) = wanted_append start c l ∙ ap (λ (q : State). wanted_after q l) (char_runs h) ∙ chars_run r

-- The second half: what takes the automaton from a state to start is what that state wants

-- A byte of each range, then characters
pub data Rest : List Range → List ℕ → Type 0 where
  chars : {l : List ℕ} → Utf8 l → Rest [] l
  next : {r : Range} {rs : List Range} {b : ℕ} {l : List ℕ} → In r b → Rest rs l → Rest (r ∷ rs) (b ∷ l)

rest_utf8 : {l : List ℕ} → Rest [] l → Utf8 l
rest_utf8 (chars u) = u

-- What a state wants of the bytes that follow
abbrev pub Wants : State → List ℕ → Type 0
Wants start l = Rest [] l
Wants tail_1 l = Rest (tail ∷ []) l
Wants tail_2 l = Rest (tail ∷ tail ∷ []) l
Wants tail_3 l = Rest (tail ∷ tail ∷ tail ∷ []) l
Wants after_e0 l = Rest (0xA0 to 0xBF ∷ tail ∷ []) l
Wants after_ed l = Rest (0x80 to 0x9F ∷ tail ∷ []) l
Wants after_f0 l = Rest (0x90 to 0xBF ∷ tail ∷ tail ∷ []) l
Wants after_f4 l = Rest (0x80 to 0x8F ∷ tail ∷ tail ∷ []) l
Wants failed l = ⊥

-- The bytes of the ranges, split from the characters after them
parted : {rs : List Range} {l : List ℕ} → Rest rs l → (c : List ℕ) × (m : List ℕ) × Sequence rs c × Utf8 m × (c ++ m ≡ l)
parted (chars {l = l} u) = ([], l, done, u, refl)
parted (next {b = b} i w) =
    let p = parted w in
    (b ∷ p.0, p.1, byte i p.2, p.3, ap (λ (x : List ℕ). b ∷ x) p.4)

-- A first byte, then the rest of its character
char : (b : ℕ) {rs : List Range} {l : List ℕ} → ((c : List ℕ) → Sequence rs c → Char (b ∷ c)) → Rest rs l → Rest [] (b ∷ l)
char b k w =
    let p = parted w in
    chars (subst (λ (x : List ℕ). Utf8 (b ∷ x)) p.4 (more (k p.0 p.2) p.3))

-- P follows whichever of the transitions the byte takes
abbrev pub Each : ℕ → List ℕ → Type 0 → List Transition → Type 0
Each b l P [] = Unit {0}
Each b l P (r ⇒ q ∷ xs) = (In r b → Wants q l → P) × Each b l P xs

pub followed : (xs : List Transition) (b : ℕ) (l : List ℕ) (P : Type 0) → Each b l P xs → Wants (follow xs b) l → P
followed [] b l P f w = absurd w
followed (r ⇒ q ∷ xs) b l P f w = go (within r b) refl (followed xs b l P f.1) w
  where
    go : (t : Bool) → within r b ≡ t → (Wants (follow xs b) l → P) → Wants (pick t q (follow xs b)) l → P
    go true e g w = f.0 (found r b e) w
    go false e g w = g w

-- A byte, followed by what the next state wants, is what the state before it wants
before : (q : State) (b : ℕ) (l : List ℕ) → Each b l (Wants q (b ∷ l)) (transitions q)
before start b l = (
  λ i. char b (λ c bs. utf8_1 (byte i bs)),
  (
    λ i. char b (λ c bs. utf8_2 (byte i bs)),
    (
      λ i. char b (λ c bs. utf8_3_e0 (byte i bs)),
      (
        λ i. char b (λ c bs. utf8_3_e1 (byte i bs)),
        (
          λ i. char b (λ c bs. utf8_3_ed (byte i bs)),
          (
            λ i. char b (λ c bs. utf8_3_ee (byte i bs)),
            (
              λ i. char b (λ c bs. utf8_4_f0 (byte i bs)),
              (
                λ i. char b (λ c bs. utf8_4_f1 (byte i bs)),
                (
                  λ i. char b (λ c bs. utf8_4_f4 (byte i bs)),
                  tt,
                ),
              ),
            ),
          ),
        ),
      ),
    ),
  ),
)
before tail_1 b l = (next, tt)
before tail_2 b l = (next, tt)
before tail_3 b l = (next, tt)
before after_e0 b l = (next, tt)
before after_ed b l = (next, tt)
before after_f0 b l = (next, tt)
before after_f4 b l = (next, tt)
before failed b l = tt

back : (q : State) (b : ℕ) (l : List ℕ) → Wants (step q b) l → Wants q (b ∷ l)
unfolding step
back q b l = followed (transitions q) b l (Wants q (b ∷ l)) (before q b l)

ends : (q : State) → accepting q ≡ true → Wants q []
ends start e = chars none
ends tail_1 e = absurd (false≢true e)
ends tail_2 e = absurd (false≢true e)
ends tail_3 e = absurd (false≢true e)
ends after_e0 e = absurd (false≢true e)
ends after_ed e = absurd (false≢true e)
ends after_f0 e = absurd (false≢true e)
ends after_f4 e = absurd (false≢true e)
ends failed e = absurd (false≢true e)

pub wanted : (l : List ℕ) (q : State) → accepting (wanted_after q l) ≡ true → Wants q l
wanted [] q e = ends q e
wanted (b ∷ l) q e = back q b l (wanted l (step q b) e)

pub utf8_exact : Utf8Exact
utf8_exact l = (λ e. rest_utf8 (wanted l start e), λ u. ap accepting (chars_run u))

-- An answer by the test is an answer by the grammar
pub both : (l : List ℕ) {b : Bool} → b ≡ utf8 l → (b ≡ utf8 l) × ((b ≡ true) ↔ Utf8 l)
both l e = (e, (λ h. (utf8_exact l).0 (sym e ∙ h), λ h. e ∙ (utf8_exact l).1 h))
