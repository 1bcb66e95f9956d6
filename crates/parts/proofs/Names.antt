-- The walk over a name: its counts, its parts, and its answer.
use Prim.Native.Nat.{ℕ, min, ◌+◌, ◌-◌, ◌≤◌}
use native.Mathlib.Omega.{arith}
use mathlib.Core.Bool.{Bool, true, false, cond, ◌&&◌, false≢true}
use mathlib.Core.List.{List, [], ◌∷◌, ◌++◌}
use mathlib.Core.Logic.{◌↔◌}
use mathlib.Core.Path.{◌≡◌, refl, sym, ap, ◌∙◌}
use lib.Dec.{eqb, leb}
use lib.ListN.{length, length-drop}
use borrow.Author.Tests.{leb-true, leb-false, le-leb, eqb-true, eqb-false, ne_eqb}
use Rattle.text.specs.Rfc3629.{Utf8}
use Rattle.text.specs.Walk.{wanted_after, utf8}
use Rattle.text.specs.Colons.{Colons, colon_step, colons_after, unwalked}
use Rattle.text.proofs.Exact.{utf8_exact, wanted_append}
use Rattle.text.proofs.Colons.{colons_append, other, second}
use Rattle.parts.specs.Parts.{colon, after_last, sql_name}
use Rattle.parts.specs.Names.{SqlStart, starts_at, not_utf8, name_start, ExactStart, unbegun, most_held, held, held_colons, walk_answer}
use Rattle.parts.specs.Private.{end_after}
use Rattle.parts.specs.Theorems.{StartExact, WalkAppend, WalkAnswer, WalkParts}
use Rattle.parts.proofs.SqlName.{name_end}

-- Counts that stop
pub held_small : (n : ℕ) → n ≤ most_held → held n ≡ n
unfolding held
held_small n h = rw (le-leb n most_held h)

pub held_large : (n : ℕ) → most_held ≤ n → held n ≡ most_held
unfolding held
held_large n h = go (leb n most_held) refl
  where
    go : (t : Bool) → leb n most_held ≡ t → cond t n most_held ≡ most_held
    go true t = omega (arith, h, leb-true n most_held t)
    go false t = refl

held_held : (n : ℕ) → held (held n) ≡ held n
held_held n = go (leb n most_held) refl
  where
    go : (t : Bool) → leb n most_held ≡ t → held (held n) ≡ held n
    go true t = ap held (held_small n (leb-true n most_held t))
    go false t =
        let e = held_large n (omega (arith, leb-false n most_held t)) in
        ap held e ∙ held_small most_held (omega arith) ∙ sym e

held_next : (a b : ℕ) → held a ≡ held b → held (a + 1) ≡ held (b + 1)
held_next a b e = go (leb (a + 1) most_held) (leb (b + 1) most_held) refl refl
  where
    -- one below the limit, the other not
    apart : (a b : ℕ) → held a ≡ held b → leb (a + 1) most_held ≡ true → leb (b + 1) most_held ≡ false → ⊥
    apart a b e t u =
        let h = leb-true (a + 1) most_held t in
        let q : a ≡ most_held = sym (held_small a (omega (arith, h))) ∙ e ∙ held_large b (omega (arith, leb-false (b + 1) most_held u)) in
        omega (arith, h, q)

    go : (t u : Bool) → leb (a + 1) most_held ≡ t → leb (b + 1) most_held ≡ u → held (a + 1) ≡ held (b + 1)
    go true true t u =
        let h = leb-true (a + 1) most_held t in
        let k = leb-true (b + 1) most_held u in
        let q : a ≡ b = sym (held_small a (omega (arith, h))) ∙ e ∙ held_small b (omega (arith, k)) in
        ap (λ (n : ℕ). held (n + 1)) q
    go true false t u = absurd (apart a b e t u)
    go false true t u = absurd (apart b a (sym e) u t)
    go false false t u = held_large (a + 1) (omega (arith, leb-false (a + 1) most_held t)) ∙ sym (held_large (b + 1) (omega (arith, leb-false (b + 1) most_held u)))

pub held_is : (n : ℕ) → min n most_held ≡ held n
held_is n = go (leb n most_held) refl
  where
    go : (t : Bool) → leb n most_held ≡ t → min n most_held ≡ held n
    go true t = let h = leb-true n most_held t in omega (arith, h, held_small n h)
    go false t = let h = leb-false n most_held t in omega (arith, h, held_large n (omega (arith, h)))

-- One more byte for two walks that both have a pair open, or both none: it closes a pair, it opens one, or it does neither
both_next : (R : Colons → Colons → Type 0) (p q : Colons) (b : ℕ) → p.opened ≡ q.opened
    → R (record { opened = false; end = p.seen + 1; seen = p.seen + 1 }) (record { opened = false; end = q.seen + 1; seen = q.seen + 1 })
    → R (record { opened = true; end = p.end; seen = p.seen + 1 }) (record { opened = true; end = q.end; seen = q.seen + 1 })
    → R (record { opened = false; end = p.end; seen = p.seen + 1 }) (record { opened = false; end = q.end; seen = q.seen + 1 })
    → R (colon_step p b) (colon_step q b)
unfolding colon_step
both_next R p q b o closes opens neither = rw o (go (eqb b 0x3A) q.opened)
  where
    go : (t u : Bool) → R
        (cond t (cond u (record { opened = false; end = p.seen + 1; seen = p.seen + 1 }) (record { opened = true; end = p.end; seen = p.seen + 1 })) (record { opened = false; end = p.end; seen = p.seen + 1 }))
        (cond t (cond u (record { opened = false; end = q.seen + 1; seen = q.seen + 1 }) (record { opened = true; end = q.end; seen = q.seen + 1 })) (record { opened = false; end = q.end; seen = q.seen + 1 }))
    go true true = closes
    go true false = opens
    go false u = neither

-- Colons that are held alike
abbrev Alike : Colons → Colons → Type 0
Alike p q = (p.opened ≡ q.opened) × (held p.end ≡ held q.end) × (held p.seen ≡ held q.seen)

alike_next : (p q : Colons) (b : ℕ) → Alike p q → Alike (colon_step p b) (colon_step q b)
alike_next p q b (o, e, s) =
    let next = held_next p.seen q.seen s in
    both_next Alike p q b o (refl, next, next) (refl, e, next) (refl, e, next)

alike_after : (l : List ℕ) (p q : Colons) → Alike p q → Alike (colons_after p l) (colons_after q l)
alike_after [] p q a = a
alike_after (b ∷ l) p q a = alike_after l (colon_step p b) (colon_step q b) (alike_next p q b a)

alike_held : (p q : Colons) → Alike p q → held_colons p ≡ held_colons q
alike_held p q (o, e, s) = cc

pub walk_append : WalkAppend
walk_append w l m =
    let q = colons_after w.colons l in
    let a : wanted_after w.state (l ++ m) ≡ wanted_after (wanted_after w.state l) m = wanted_append w.state l m in
    let b : held_colons (colons_after w.colons (l ++ m)) ≡ held_colons (colons_after (held_colons q) m) =
    ap held_colons (colons_append w.colons l m)
    ∙ alike_held (colons_after q m) (colons_after (held_colons q) m) (alike_after m q (held_colons q) (refl, sym (held_held q.end), sym (held_held q.seen))) in
    cc

-- Colons counted from a later start: `last` is where the last one ended before it, `at` how many bytes came before it
abbrev Later : (last at : ℕ) → Colons → Colons → Type 0
Later last at p q = (p.opened ≡ q.opened) × (p.end ≡ end_after last at q.end) × (p.seen ≡ at + q.seen)

later_next : (last at : ℕ) (p q : Colons) (b : ℕ) → Later last at p q → Later last at (colon_step p b) (colon_step q b)
later_next last at p q b (o, e, s) =
    let next : p.seen + 1 ≡ at + (q.seen + 1) = omega (arith, s) in
    both_next (Later last at) p q b o (refl, rw (ne_eqb (q.seen + 1) 0 (λ z. omega (arith, z))) next, next) (refl, e, next) (refl, e, next)

later_after : (last at : ℕ) (l : List ℕ) (p q : Colons) → Later last at p q → Later last at (colons_after p l) (colons_after q l)
later_after last at [] p q a = a
later_after last at (b ∷ l) p q a = later_after last at l (colon_step p b) (colon_step q b) (later_next last at p q b a)

-- A part of a name, walked over from where a walk stands
pub later : (p : Colons) (l : List ℕ) → Later p.end p.seen (colons_after p l) (colons_after (unwalked p.opened) l)
later p l = later_after p.end p.seen l p (unwalked p.opened) (refl, refl, omega arith)

pub seen_after_lem : (l : List ℕ) (p : Colons) → (colons_after p l).seen ≡ p.seen + length l
seen_after_lem [] p = omega arith
seen_after_lem (b ∷ l) p =
    let e : (colon_step p b).seen ≡ p.seen + 1 = both_next (λ (x y : Colons). x.seen ≡ p.seen + 1) p p b refl refl refl refl in
    seen_after_lem l (colon_step p b) ∙ omega (arith, e)

-- One byte where no pair is open
from_closed : (last at b : ℕ) → colon_step (record { opened = false; end = last; seen = at }) b ≡ record { opened = eqb b colon; end = last; seen = at + 1 }
unfolding colon_step
from_closed last at b = go (eqb b colon)
  where
    go : (t : Bool) → ◌≡◌ {A = Colons} (cond t (record { opened = true; end = last; seen = at + 1 }) (record { opened = false; end = last; seen = at + 1 })) (record { opened = t; end = last; seen = at + 1 })
    go true = refl
    go false = refl

-- With `after` what comes after the last pair, which ended at `last`, or the whole name: the last pair in the rest of the name ends
-- where what comes after the last `::` starts
colons_name : (l : List ℕ) (last at : ℕ) (after : List ℕ) → last + length after ≡ at + length l
    → (colons_after (record { opened = false; end = last; seen = at }) l).end + length (after_last after l) ≡ at + length l
colons_name [] last at after e = e
colons_name (x ∷ []) last at after e = rw (from_closed last at x) e
colons_name (x ∷ y ∷ l) last at after e = go (eqb x colon) (eqb y colon) refl refl (colons_name l (at + 1 + 1) (at + 1 + 1) l refl) (colons_name (y ∷ l) last (at + 1) after (omega (arith, e)))
  where
    after_x : Bool → Colons
    after_x t = record { opened = t; end = last; seen = at + 1 }

    one : (t : Bool) → eqb x colon ≡ t → colon_step (record { opened = false; end = last; seen = at }) x ≡ after_x t
    one t e = from_closed last at x ∙ ap after_x e

    go : (t u : Bool) → eqb x colon ≡ t → eqb y colon ≡ u
        → (colons_after (record { opened = false; end = at + 1 + 1; seen = at + 1 + 1 }) l).end + length (after_last l l) ≡ at + 1 + 1 + length l
        → (colons_after (after_x false) (y ∷ l)).end + length (after_last after (y ∷ l)) ≡ at + 1 + length (y ∷ l)
        → (colons_after (record { opened = false; end = last; seen = at }) (x ∷ y ∷ l)).end + length (cond (t && u) (after_last l l) (after_last after (y ∷ l))) ≡ at + length (x ∷ y ∷ l)
    go true true t u matched passed =
        let e = ap (λ (p : Colons). colon_step p y) (one true t) ∙ second (after_x true) y (eqb-true y colon u) refl in
        ap (λ (p : Colons). (colons_after p l).end + length (after_last l l)) e ∙ matched ∙ omega arith
    go true false t u matched passed =
        let n = eqb-false y colon u in
        let e = ap (λ (p : Colons). colon_step p y) (one true t) ∙ other (after_x true) y n ∙ sym (other (after_x false) y n) in
        ap (λ (p : Colons). (colons_after p l).end + length (after_last after (y ∷ l))) e ∙ passed ∙ omega arith
    go false u t v matched passed =
        ap (λ (p : Colons). (colons_after p (y ∷ l)).end + length (after_last after (y ∷ l))) (one false t) ∙ passed ∙ omega arith

pub name_colons : (name : List ℕ) → (colons_after (unwalked false) name).end + length (sql_name name) ≡ length name
unfolding sql_name
name_colons name = colons_name name 0 0 name refl ∙ omega arith

pub walk_answer_lem : WalkAnswer
unfolding walk_answer name_start
walk_answer_lem name h =
    let e = name_colons name in
    let k : held (colons_after (unwalked false) name).end ≡ length name - length (sql_name name) =
    held_small (colons_after (unwalked false) name).end (omega (arith, e, h)) ∙ omega (arith, e) in
    ap (λ (n : ℕ). cond (utf8 name) (starts_at n) not_utf8) k

pub walk_parts : WalkParts
walk_parts first rest h = ap walk_answer (sym (walk_append unbegun first rest)) ∙ walk_answer_lem (first ++ rest) h

pub start_exact : StartExact
unfolding name_start
start_exact name a = go (utf8 name) refl
  where
    go : (t : Bool) → utf8 name ≡ t → (a ≡ cond t (starts_at (length name - length (sql_name name))) not_utf8) ↔ ExactStart name a
    go true t =
        let u = (utf8_exact name).0 t in
        let (i, h, e) = name_end name in
        let m : length (sql_name name) ≡ length name - i = ap length e ∙ length-drop i name in
        let k : length name - length (sql_name name) ≡ i = omega (arith, m, h) in
        (λ q. rw (q, k) (u, h, sym e), yes a)
      where
        yes : (a : SqlStart) → ExactStart name a → a ≡ starts_at (length name - length (sql_name name))
        yes (starts_at n) (v, l, d) =
            let m : length (sql_name name) ≡ length name - n = sym (ap length d) ∙ length-drop n name in
            ap starts_at (omega (arith, m, l))
        yes not_utf8 n = absurd (n ((utf8_exact name).0 t))
    go false t = (λ q. rw q no, not a)
      where
        no : Utf8 name → ⊥
        no u = false≢true (sym t ∙ (utf8_exact name).1 u)

        not : (a : SqlStart) → ExactStart name a → a ≡ not_utf8
        not (starts_at n) (v, l, d) = absurd (no v)
        not not_utf8 n = refl
