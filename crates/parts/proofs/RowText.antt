-- The text of a row, from the tests on the row.
use Prim.Native.Nat.{ℕ, ◌+◌, ◌-◌, ◌≤◌, ◌<◌}
use native.Mathlib.Omega.{arith}
use mathlib.Core.Bool.{Bool, true, false, ◌&&◌}
use mathlib.Core.List.{List, [], ◌∷◌}
use mathlib.Core.Path.{◌≡◌, refl, sym, ap, ◌∙◌}
use lib.Dec.{leb, eqb}
use lib.ListN.{length, take, drop, length-drop}
use lib.Seq.{length-take-le}
use borrow.Author.Tests.{leb-true, le-leb, lt-leb, eq-eqb, ne_eqb}
use Rattle.layout.specs.Written.{text_sort}
use Rattle.layout.specs.Layout.{string, text}
use Rattle.layout.specs.Reading.{Outcome, ok, refuse, ◌>>=◌, need, utf8, enough, number_at, body_at, read}
use Rattle.layout.specs.Answers.{limit}
use Rattle.layout.proofs.Equations.{read_text_lem}
use Rattle.table.specs.declared.Row.{Row}
use Rattle.place.specs.Place.{between, number_in}
use Rattle.parts.specs.Parts.{row_text}
use Rattle.parts.specs.Private.{Untested}
use Rattle.parts.specs.Theorems.{RowLies, RowPart}
use Rattle.text.specs.Rfc3629.{Utf8}
use Rattle.text.specs.Walk as automaton
use Rattle.text.proofs.Exact.{utf8_exact}

module _ (s : List ℕ) (row : Row) where
  pub long : limit < length s → row_text s row ≡ refuse 1 0
  unfolding row_text
  long h = rw (lt-leb (length s) limit h)

  module _ (small : length s ≤ limit) where
    pub other_sort : (row.sort ≡ text_sort → ⊥) → row_text s row ≡ refuse 15 0
    unfolding row_text
    other_sort h = rw (le-leb (length s) limit small, ne_eqb row.sort text_sort h)

    module _ (z : row.sort ≡ text_sort) where
      pub outside : length s < row.offset + row.value → row_text s row ≡ refuse 15 0
      unfolding row_text
      outside h = rw (le-leb (length s) limit small, eq-eqb row.sort text_sort z, lt-leb (row.offset + row.value) (length s) h)

      pub inside : row.offset + row.value ≤ length s → Untested s row (ok row.offset (row.offset + row.value))
      unfolding row_text
      inside h =
          let n : row.offset + row.value - row.offset ≡ row.value = omega arith in
          (omega arith, h, rw (le-leb (length s) limit small, eq-eqb row.sort text_sort z, le-leb (row.offset + row.value) (length s) h, n))

  -- What is still to be tested
  module _ (start end : ℕ) (u : Untested s row (ok start end)) where
    pub is_text_lem : Utf8 (between s start end) → row_text s row ≡ ok start end
    unfolding utf8
    is_text_lem t = u.2 ∙ rw ((utf8_exact (between s start end)).1 t)

    pub not_text : (Utf8 (between s start end) → ⊥) → row_text s row ≡ refuse 15 0
    unfolding utf8
    not_text n = u.2 ∙ go (automaton.utf8 (between s start end)) refl
      where
        go : (t : Bool) → automaton.utf8 (between s start end) ≡ t → need t 15 0 (ok start end) ≡ refuse 15 0
        go true t = absurd (n ((utf8_exact (between s start end)).0 t))
        go false t = refl

  -- A row that is not refused
  pub accepted : number_in (row_text s row) ≡ 0 → (row.offset + row.value ≤ length s) × (row_text s row ≡ ok row.offset (row.offset + row.value))
  unfolding row_text
  accepted h = go (leb (length s) limit) (eqb row.sort text_sort) (enough s row.offset row.value) (utf8 (take row.value (drop row.offset s))) refl h
    where
      go : (a b x y : Bool) → enough s row.offset row.value ≡ x → number_in (need a 1 0 (need (b && (x && y)) 15 0 (ok row.offset (row.offset + row.value)))) ≡ 0
          → (row.offset + row.value ≤ length s) × (need a 1 0 (need (b && (x && y)) 15 0 (ok row.offset (row.offset + row.value))) ≡ ok row.offset (row.offset + row.value))
      go true true true true e h = (leb-true (row.offset + row.value) (length s) e, refl)
      go true true true false e h = absurd (omega arith)
      go true true false y e h = absurd (omega arith)
      go true false x y e h = absurd (omega arith)
      go false b x y e h = absurd (omega arith)

-- A refusal has another number than 0
pub row_numbered : (s : List ℕ) (row : Row) (n p : ℕ) → row_text s row ≡ refuse n p → n ≡ 0 → ⊥
row_numbered s row n p e z =
    let q : ◌≡◌ {A = Outcome ℕ ℕ} (refuse n p) (ok row.offset (row.offset + row.value)) = sym e ∙ (accepted s row (ap number_in e ∙ z)).1 in
    absurd (let w : ◌≡◌ {A = ℕ} 0 1 = cc in omega arith)

pub row_lies : RowLies
row_lies s row start end e =
    let z : number_in (row_text s row) ≡ 0 = ap number_in e in
    let (h, k) = accepted s row z in
    let q : ◌≡◌ {A = Outcome ℕ ℕ} (ok start end) (ok row.offset (row.offset + row.value)) = sym e ∙ k in
    let a : start ≡ row.offset = cc in
    let b : end ≡ row.offset + row.value = cc in
    (omega arith, omega arith)

-- What is read as a text
read_body : (s : List ℕ) (at : ℕ) (t : List ℕ) (end : ℕ) → read text s at ≡ ok (string t ∷ []) end
    → (at + 4 + length t ≤ length s) × (utf8 t ≡ true) × (take (length t) (drop (at + 4) s) ≡ t)
read_body s at t end e = fits (enough s at 4) (sym (read_text_lem s at) ∙ e)
  where
    n : ℕ
    n = number_at s at

    body : List ℕ
    body = take n (drop (at + 4) s)

    Answer : Outcome ℕ (List ℕ) → Type 0
    Answer o = (o >>= λ t₁ k. ok (string t₁ ∷ []) k) ≡ ok (string t ∷ []) end

    valid : (b : Bool) → utf8 body ≡ b → at + 4 + n ≤ length s → Answer (need b 7 (at + 4) (ok body (at + 4 + n)))
        → (at + 4 + length t ≤ length s) × (utf8 t ≡ true) × (take (length t) (drop (at + 4) s) ≡ t)
    valid true u h q =
        let a : body ≡ t = cc in
        let l : length t ≡ n = sym (ap length a) ∙ length-take-le n (drop (at + 4) s) (omega (arith, length-drop (at + 4) s)) in
        (omega arith, rw (← a) u, rw l a)
    valid false u h q = absurd (let z : ◌≡◌ {A = ℕ} 0 1 = cc in omega arith)

    long_enough : (b : Bool) → enough s (at + 4) n ≡ b → Answer (need b 5 (at + 4) (need (utf8 body) 7 (at + 4) (ok body (at + 4 + n))))
        → (at + 4 + length t ≤ length s) × (utf8 t ≡ true) × (take (length t) (drop (at + 4) s) ≡ t)
    long_enough true h q = valid (utf8 body) refl (leb-true _ _ h) q
    long_enough false h q = absurd (let z : ◌≡◌ {A = ℕ} 0 1 = cc in omega arith)

    fits : (b : Bool) → Answer (need b 5 at (ok n (at + 4)) >>= λ m at₁. body_at s m at₁)
        → (at + 4 + length t ≤ length s) × (utf8 t ≡ true) × (take (length t) (drop (at + 4) s) ≡ t)
    fits true q = long_enough (enough s (at + 4) n) refl q
    fits false q = absurd (let z : ◌≡◌ {A = ℕ} 0 1 = cc in omega arith)

pub row_part : RowPart
unfolding row_text
row_part s small at t end e row q =
    let (h, u, k) = read_body s at t end e in
    let a : row.sort ≡ text_sort = cc in
    let b : row.offset ≡ at + 4 = cc in
    let d : row.value ≡ length t = cc in
    let m : at + 4 + length t - (at + 4) ≡ length t = omega arith in
    rw (a, b, d, le-leb (length s) limit small, le-leb (at + 4 + length t) (length s) h, k, u, m, k)
