-- What is stored, if the rows spell a value with good texts and the destination has enough space.
use Prim.Native.Nat.{ℕ, ◌+◌, ◌≤◌, ◌<◌}
use native.Mathlib.Nat.{mod-eq_of_lt}
use native.Mathlib.Omega.{arith}
use mathlib.Core.Bool.{true, ◌&&◌, and-eq-true_iff}
use mathlib.Core.List.{List, [], ◌∷◌, ◌++◌, append_assoc, append-nil}
use mathlib.Core.Path.{◌≡◌, refl, sym, ap, ◌∙◌}
use lib.ListN.{length, drop, length-append, length-drop}
use lib.Seq.{take-append_seam, drop-append-add, drop-drop, length-take-le}
use borrow.Author.Tests.{leb-true, eq-eqb}
use Rattle.layout.specs.Layout.{Kind, Tag, Flag, Number, Count, Leaf, plain, string}
use Rattle.layout.specs.Written.{text_sort, leaf_bytes, bytes_of, sort_at, offset_at, value_at}
use Rattle.layout.specs.Reading.{utf8}
use Rattle.layout.specs.Answers.{whole_rows}
use Rattle.layout.proofs.Each.{Each}
use Rattle.paste.specs.Pasted.{pasted}
use Rattle.paste.proofs.Pasted.{pasted_fits}
use Rattle.writing.specs.Rows.{lent_at, stays_at, good_at}
use Rattle.storing.specs.Private.{row_bytes, Spot, spot, stored_bytes, stored_row, stored_rows}
use Rattle.writing.specs.Refusals.{RowGives, Sized}
use Rattle.storing.specs.Storing.{Stores}
use Rattle.writing.proofs.Along.{along_each, along_map}
use Rattle.writing.proofs.Spelled.{There, Given, given_there, good_sound, all_good}
use Rattle.storing.proofs.Rows.{bytes_fit, bytes_one, bytes_four, bytes_text, text_there}

pub pasted_after : (a r b : List ℕ) → length b ≤ length r → pasted (a ++ r) (length a) b ≡ (a ++ b) ++ drop (length b) r
pasted_after a r b h = pasted_fits (a ++ r) (length a) b (omega (arith, length-append a r)) ∙ rw (take-append_seam a r, drop-append-add a r (length b))

module _ (rows text : List ℕ) where
  -- The rows of some leaves are good
  abbrev pub GoodFrom : (row : ℕ) → List Leaf → Type 0
  GoodFrom i ls = (k : ℕ) → i ≤ k → k < i + length ls → good_at rows text k ≡ true

  pub good_next : (i : ℕ) (x : Leaf) (ls : List Leaf) → GoodFrom i (x ∷ ls) → GoodFrom (i + 1) ls
  good_next i x ls h k a b = h k (omega arith) (omega arith)

  -- The row of a leaf has the leaf's bytes
  pub row_has : (i : ℕ) (x : Leaf) → Sized x → RowGives rows text i x → good_at rows text i ≡ true → row_bytes rows text i ≡ leaf_bytes x
  row_has i (plain Kind n) s g h = bytes_one rows text i _ (sym g.0) _ (sym g.1) (omega arith) ∙ ap (λ (m : ℕ). m ∷ []) (mod-eq_of_lt s)
  row_has i (plain Tag n) s g h = bytes_one rows text i _ (sym g.0) _ (sym g.1) (omega arith) ∙ ap (λ (m : ℕ). m ∷ []) (mod-eq_of_lt s)
  row_has i (plain Flag n) s g h = bytes_one rows text i _ (sym g.0) _ (sym g.1) (omega arith) ∙ ap (λ (m : ℕ). m ∷ []) (mod-eq_of_lt (below n s))
    where
      below : (n : ℕ) → n < 2 → n < 256
      below n h = omega arith
  row_has i (plain Number n) s g h = bytes_four rows text i _ (sym g.0) _ (sym g.1) (omega arith) (omega arith)
  row_has i (plain Count n) s g h = bytes_four rows text i _ (sym g.0) _ (sym g.1) (omega arith) (omega arith)
  row_has i (string t) s g h =
      let e : (stays_at rows text i && utf8 (lent_at rows text i)) ≡ true = rw (eq-eqb (sort_at rows i) text_sort g.0) at h in
      let a : stays_at rows text i ≡ true = ((and-eq-true_iff (stays_at rows text i) (utf8 (lent_at rows text i))).0 e).0 in
      let k : offset_at rows i + value_at rows i ≤ length text = leb-true _ _ a in
      let n : length t ≡ value_at rows i = ap length (sym g.1) ∙ length-take-le (value_at rows i) (drop (offset_at rows i) text) (omega (arith, length-drop (offset_at rows i) text)) in
      bytes_text rows text i text_sort (sym g.0) (value_at rows i) refl (omega arith) (offset_at rows i) refl ∙ text_there text (offset_at rows i) (value_at rows i) a ∙ rw (g.1, n)

  -- Leaves are stored one after the other
  pub stored_leaves : (ls : List Leaf) (i : ℕ) (a r : List ℕ) → Each Sized ls → Given rows text i ls → GoodFrom i ls → length (bytes_of ls) ≤ length r
      → stored_rows rows text (length ls) i (spot (length a) (a ++ r)) ≡ spot (length (a ++ bytes_of ls)) ((a ++ bytes_of ls) ++ drop (length (bytes_of ls)) r)
  unfolding stored_rows
  stored_leaves [] i a r s g h k = ap (λ (x : List ℕ). spot (length x) (x ++ r)) (sym (append-nil a))
  stored_leaves (x ∷ ls) i a r s g h k =
      let b = leaf_bytes x in
      let q = length-append b (bytes_of ls) in
      let f : length a + length b ≤ length (a ++ r) = omega (arith, length-append a r) in
      let m : length a + length b ≡ length (a ++ b) = sym (length-append a b) in
      let e : stored_row rows text i (spot (length a) (a ++ r)) ≡ spot (length (a ++ b)) ((a ++ b) ++ drop (length b) r) =
      ap (λ (y : List ℕ). stored_bytes y (spot (length a) (a ++ r))) (row_has i x s.0 g.0.1 (h i (omega arith) (omega arith)))
      ∙ bytes_fit b (length a) (a ++ r) f ∙ rw (m, pasted_after a r b (omega arith)) in
      ap (stored_rows rows text (length ls) (i + 1)) e
      ∙ stored_leaves ls (i + 1) (a ++ b) (drop (length b) r) s.1 g.1 (good_next i x ls h) (omega (arith, length-drop (length b) r))
      ∙ rw (append_assoc a b (bytes_of ls), drop-drop, ← q)

-- Storing meets its contract
pub stores : (rows text dest after : List ℕ) → after ≡ (stored_rows rows text (whole_rows rows) 0 (spot 0 dest)).dest → Stores rows text dest after
stores rows text dest after e ls g good fits =
    let w : whole_rows rows ≡ length ls = omega (arith, g.whole) in
    let t = along_map (λ i x. RowGives rows text i x × Sized x) (There rows text) 0 ls (λ k x a b h. (omega arith, h.0)) g.give in
    let k = good_sound rows text (whole_rows rows) (all_good rows text good) in
    let q = stored_leaves rows text ls 0 [] dest (along_each (λ i x. RowGives rows text i x × Sized x) Sized (λ i x h. h.1) 0 ls g.give) t (λ i p z. k i (given_there rows text 0 ls t i p z)) fits in
    e ∙ ap (λ (n : ℕ). (stored_rows rows text n 0 (spot 0 dest)).dest) w ∙ ap (λ (p : Spot). p.dest) q
