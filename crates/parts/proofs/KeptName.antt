-- The kept name of a row's text.
use Prim.Native.Nat.{ℕ, ◌+◌, ◌-◌, ◌≤◌}
use native.Mathlib.Omega.{arith}
use mathlib.Core.List.{List, []}
use mathlib.Core.Path.{◌≡◌, refl, sym, ap, ◌∙◌}
use lib.ListN.{length, take, drop}
use lib.Seq.{take-nil, take-take}
use Rattle.text.specs.Kept.{ServerKeeps, kept_length}
use Rattle.text.proofs.Kept.{kept_exact}
use Rattle.layout.specs.Reading.{Outcome, ok, refuse}
use Rattle.table.specs.declared.Row.{Row}
use Rattle.place.specs.Place.{between, part_of, number_in}
use Rattle.place.proofs.Between.{length_between}
use Rattle.parts.specs.Parts.{row_text, kept_name, kept_name_in, ExactKeptName}
use Rattle.parts.specs.Theorems.{KeptPart, KeptNameExact}
use Rattle.parts.proofs.RowText.{accepted, row_lies}

-- What is kept of a text lies in it
kept_inside : (t : List ℕ) → kept_length t ≤ length t
kept_inside t = ((kept_exact t (kept_length t)).0 refl).boundary.inside

pub kept_part : KeptPart
kept_part s row = go (row_text s row) (row_lies s row)
  where
    go : (o : Outcome ℕ ℕ) → ((start end : ℕ) → o ≡ ok start end → (start ≤ end) × (end ≤ length s)) → part_of s (kept_name_in s o) ≡ kept_name (part_of s o)
    go (ok start end) lies =
        let (h, k) = lies start end refl in
        let t = between s start end in
        let n : start + kept_length t - start ≡ kept_length t = omega arith in
        let l : length t ≡ end - start = length_between s start end h k in
        ap (λ (x : ℕ). take x (drop start s)) n ∙ sym (take-take (kept_length t) (end - start) (drop start s) (omega (arith, l, kept_inside t)))
    go (refuse n p) lies = sym (take-nil (kept_length []))

-- A row's text ends by its value
text_ends : (s : List ℕ) (row : Row) (start end : ℕ) → row_text s row ≡ ok start end → end ≡ start + row.value
text_ends s row start end e =
    let q : ◌≡◌ {A = Outcome ℕ ℕ} (ok start end) (ok row.offset (row.offset + row.value)) = sym e ∙ (accepted s row (ap number_in e)).1 in
    let a : start ≡ row.offset = cc in
    let b : end ≡ row.offset + row.value = cc in
    omega arith

pub kept_name_exact : KeptNameExact
kept_name_exact s row o = (λ e. rw e (forth (row_text s row) refl), back o)
  where
    forth : (t : Outcome ℕ ℕ) → row_text s row ≡ t → ExactKeptName s row (kept_name_in s t)
    forth (ok start end) e =
        let q = text_ends s row start end e in
        let t = between s start end in
        let n : start + kept_length t - start ≡ kept_length t = omega arith in
        (e ∙ ap (ok start) q, omega arith, rw (n, ← q) ((kept_exact t (kept_length t)).0 refl))
    forth (refuse n p) e = e

    back : (o : Outcome ℕ ℕ) → ExactKeptName s row o → o ≡ kept_name_in s (row_text s row)
    back (ok start end) (e, h, k) =
        let t = between s start (start + row.value) in
        let n : end ≡ start + kept_length t = omega (arith, (kept_exact t (end - start)).1 k, h) in
        ap (ok start) n ∙ sym (ap (kept_name_in s) e)
    back (refuse n p) e = sym (ap (kept_name_in s) e)

-- An answer by the equation is one by conditions
pub kept_both : (s : List ℕ) (row : Row) (o : Outcome ℕ ℕ) → o ≡ kept_name_in s (row_text s row) → (o ≡ kept_name_in s (row_text s row)) × ExactKeptName s row o
kept_both s row o e = (e, (kept_name_exact s row o).0 e)

-- Where the kept name of a text is
pub kept_placed : (s : List ℕ) (start end k : ℕ) (o : Outcome ℕ ℕ) → o ≡ ok start end → ServerKeeps (between s start end) k → ok start (start + k) ≡ kept_name_in s o
kept_placed s start end k o e h = ap (λ (n : ℕ). ok start (start + n)) ((kept_exact (between s start end) k).1 h) ∙ sym (ap (kept_name_in s) e)
