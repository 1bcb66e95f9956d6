-- The SQL name: one step from the left, and the end.
use Prim.Native.Nat.{ℕ, suc, ◌+◌, ◌-◌, ◌≤◌}
use native.Mathlib.Omega.{arith}
use mathlib.Core.Bool.{Bool, true, false, cond, ◌&&◌}
use mathlib.Core.List.{List, [], ◌∷◌}
use mathlib.Core.Path.{◌≡◌, refl, sym, ap, ◌∙◌}
use lib.Dec.{eqb}
use lib.ListN.{length, get_or, take, drop, length-drop}
use lib.Seq.{drop-cons, drop-drop}
use Rattle.layout.specs.Reading.{Outcome, ok, refuse}
use Rattle.layout.proofs.InBytes.{drop_take}
use Rattle.place.specs.Place.{between, part_of}
use Rattle.place.proofs.Between.{length_between}
use Rattle.parts.specs.Parts.{row_text, colon, after_last, sql_name, sql_name_in}
use Rattle.parts.specs.Theorems.{NameEnd, NamePart, NameCases}
use Rattle.parts.proofs.RowText.{row_lies}

-- l is the end of a name
abbrev End : (name l : List ℕ) → Type 0
End name l = (start : ℕ) × (start ≤ length name) × (l ≡ drop start name)

end_rest : (name : List ℕ) (x : ℕ) (l : List ℕ) → End name (x ∷ l) → End name l
end_rest name x l (k, h, e) =
    let m : suc (length l) ≡ length name - k = ap length e ∙ length-drop k name in
    let q : x ∷ l ≡ get_or name k 0 ∷ drop (suc k) name = e ∙ drop-cons name k 0 (omega arith) in
    (suc k, omega arith, cc)

end_after_lem : (name last l : List ℕ) → End name last → End name l → End name (after_last last l)
end_after_lem name last [] a b = a
end_after_lem name last (x ∷ []) a b = a
end_after_lem name last (x ∷ y ∷ rest) a b =
    let d = end_rest name x (y ∷ rest) b in
    let f = end_rest name y rest d in
    go (eqb x colon && eqb y colon) (end_after_lem name rest rest f f) (end_after_lem name last (y ∷ rest) a d)
  where
    go : (t : Bool) → End name (after_last rest rest) → End name (after_last last (y ∷ rest)) → End name (cond t (after_last rest rest) (after_last last (y ∷ rest)))
    go true p q = p
    go false p q = q

pub name_end : NameEnd
unfolding sql_name
name_end name = end_after_lem name name name (0, omega arith, refl) (0, omega arith, refl)

pub name_part : NamePart
unfolding sql_name
name_part s row = go (row_text s row) (row_lies s row)
  where
    go : (o : Outcome ℕ ℕ) → ((start end : ℕ) → o ≡ ok start end → (start ≤ end) × (end ≤ length s)) → part_of s (sql_name_in s o) ≡ sql_name (part_of s o)
    go (ok start end) lies =
        let (h, k) = lies start end refl in
        let name = between s start end in
        let (i, j, e) = name_end name in
        let l = length_between s start end h k in
        let m : length (sql_name name) ≡ length name - i = ap length e ∙ length-drop i name in
        let a : end - length (sql_name name) ≡ start + i = omega arith in
        let b : end - (start + i) ≡ end - start - i = omega arith in
        ap (λ (x : ℕ). between s x end) a
        ∙ ap (λ (x : ℕ). take x (drop (start + i) s)) b
        ∙ ap (take (end - start - i)) (sym (drop-drop i start s))
        ∙ sym (drop_take (drop start s) i (end - start) (omega arith) (omega (arith, length-drop start s)))
        ∙ sym e
    go (refuse n p) lies = refl

pub name_cases : NameCases
unfolding sql_name
name_cases = (refl, refl, refl)

-- The SQL name of a text at `start` begins `before` bytes after its start
pub name_placed : (s : List ℕ) (start len before : ℕ) (o : Outcome ℕ ℕ) → o ≡ ok start (start + len) → start + len ≤ length s
    → before ≤ length (between s start (start + len)) → drop before (between s start (start + len)) ≡ sql_name (between s start (start + len))
    → ok (start + before) (start + before + (len - before)) ≡ sql_name_in s o
name_placed s start len before o e h k q =
    let name = between s start (start + len) in
    let l : length name ≡ len = length_between s start (start + len) (omega arith) h ∙ omega arith in
    let m : length (sql_name name) ≡ len - before = sym (ap length q) ∙ length-drop before name ∙ omega arith in
    let a : start + before ≡ start + len - length (sql_name name) = omega (arith, l, m) in
    let b : start + before + (len - before) ≡ start + len = omega (arith, l) in
    ap (λ (n : ℕ). ok n (start + before + (len - before))) a ∙ ap (ok (start + len - length (sql_name name))) b ∙ sym (ap (sql_name_in s) e)
