-- What is stored as entries, if the rows give the leaves of entities with good texts and the destination has enough space.
use Prim.Native.Nat.{ℕ, suc, ◌+◌, ◌-◌, ◌%◌, ◌≤◌, ◌<◌}
use native.Mathlib.Nat.{mod-eq_of_lt}
use native.Mathlib.Omega.{arith}
use mathlib.Core.Bool.{true, false}
use mathlib.Core.List.{List, [], ◌∷◌, ◌++◌, append_assoc, append-nil}
use mathlib.Core.Path.{◌≡◌, refl, sym, ap, subst, ◌∙◌}
use lib.ListN.{length, take, drop, length-append, length-drop, take-append-drop}
use lib.Seq.{drop-drop, length-take-le, drop-append_seam}
use borrow.Author.Tests.{eq-eqb}
use Rattle.layout.specs.Layout.{Kind, Tag, Flag, Number, Count, Leaf, plain, string}
use Rattle.layout.specs.Written.{four, bytes_of}
use Rattle.layout.specs.Answers.{limit, whole_rows}
use Rattle.layout.proofs.Each.{Each, each_part}
use Rattle.paste.specs.Pasted.{pasted}
use Rattle.writing.specs.Refusals.{RowGives, Sized}
use Rattle.writing.proofs.Along.{along_part, along_at, along_each, along_map, along_also}
use Rattle.writing.proofs.Spelled.{There, Given, given_there, good_sound, all_good}
use Rattle.storing.specs.Private.{Spot, spot, is_kind, next_kind, entity_end, stored_payload, length_stored}
use Rattle.storing.specs.Storing.{NoKind, KindFirst, KindsFirst, joined, entries_of, StoresEntries}
use Rattle.storing.proofs.Rows.{next_here, next_past, next_none}
use Rattle.storing.proofs.Stored.{GoodFrom, pasted_after, stored_leaves}

-- The length of a payload c, stored before it over four bytes g
length_over : (a g c r : List ℕ) → length g ≡ 4 → length c < 4294967296
    → length_stored (length a) (length (a ++ (g ++ c))) ((a ++ (g ++ c)) ++ r) ≡ (a ++ (four (length c) ++ c)) ++ r
length_over a g c r h k =
    let n : length (a ++ (g ++ c)) - length a - 4 ≡ length c = omega (arith, length-append a (g ++ c), length-append g c) in
    let d : drop (length (four (length c))) (g ++ (c ++ r)) ≡ c ++ r = ap (λ (k : ℕ). drop k (g ++ (c ++ r))) (sym h) ∙ drop-append_seam g (c ++ r) in
    let x : (a ++ (g ++ c)) ++ r ≡ a ++ (g ++ (c ++ r)) = append_assoc a (g ++ c) r ∙ ap (λ (y : List ℕ). a ++ y) (append_assoc g c r) in
    let y : (a ++ four (length c)) ++ (c ++ r) ≡ (a ++ (four (length c) ++ c)) ++ r =
    append_assoc a (four (length c)) (c ++ r) ∙ sym (append_assoc a (four (length c) ++ c) r ∙ ap (λ (z : List ℕ). a ++ z) (append_assoc (four (length c)) c r)) in
    ap (λ (k : ℕ). pasted ((a ++ (g ++ c)) ++ r) (length a) (four (k % 4294967296))) n
    ∙ ap (λ (k : ℕ). pasted ((a ++ (g ++ c)) ++ r) (length a) (four k)) (mod-eq_of_lt k)
    ∙ ap (λ (z : List ℕ). pasted z (length a) (four (length c))) x
    ∙ pasted_after a (g ++ (c ++ r)) (four (length c)) (omega (arith, length-append g (c ++ r)))
    ∙ ap (λ (z : List ℕ). (a ++ four (length c)) ++ z) d
    ∙ y

module _ (rows text : List ℕ) where
  -- Storing entries from row i and a spot on comes to another spot: no row is left, or no space for a length; or an entry is
  -- stored, and so on from there
  pub data Leads : (row : ℕ) → Spot → Spot → Type 0 where
    ends : {i : ℕ} {p : Spot} → whole_rows rows ≤ i → Leads i p p
    full : {i : ℕ} {p : Spot} → length p.dest < p.at + 4 → Leads i p p
    goes : {i at end : ℕ} {dest after : List ℕ} {q : Spot} → i < whole_rows rows → spot end after ≡ stored_payload rows text i (spot (at + 4) dest)
        → Leads (entity_end rows i) (spot end (length_stored at end after)) q → Leads i (spot at dest) q

  -- The rows of leaves that are no kinds
  quiet : (ls : List Leaf) (i : ℕ) → Given rows text i ls → Each NoKind ls → (k : ℕ) → i ≤ k → k < i + length ls → is_kind rows k ≡ false
  quiet ls i g e =
      along_at (λ k x. RowGives rows text k x × NoKind x) (λ k. is_kind rows k ≡ false) row i ls
      (along_also (RowGives rows text) NoKind i ls (along_map (There rows text) (RowGives rows text) i ls (λ k x a b h. h.1) g) e)
    where
      row : (i : ℕ) (x : Leaf) → RowGives rows text i x × NoKind x → is_kind rows i ≡ false
      row i (plain Kind n) h = absurd (h.1 refl)
      row i (plain Tag n) h = rw h.0.0
      row i (plain Flag n) h = rw h.0.0
      row i (plain Number n) h = rw h.0.0
      row i (plain Count n) h = rw h.0.0
      row i (string t) h = rw h.0.0

  -- An entity ends where the next one begins, or with the rows
  next_entity : (more : List (List Leaf)) (i : ℕ) → KindsFirst more → Given rows text i (joined more) → whole_rows rows ≡ i + length (joined more) → next_kind rows (whole_rows rows - i) i ≡ i
  next_entity [] i k g w = next_none rows (whole_rows rows) i (omega arith)
  next_entity (ls ∷ more) i k g w = next_here rows (whole_rows rows - i) i (first ls k.0 (joined more) g)
    where
      first : (ls : List Leaf) → KindFirst ls → (ms : List Leaf) → Given rows text i (ls ++ ms) → is_kind rows i ≡ true
      first ls k ms g = subst (λ (xs : List Leaf). Given rows text i (xs ++ ms) → is_kind rows i ≡ true) (sym k.first) (λ h. eq-eqb _ _ h.0.1.0) g

  entity_end_lem : (ls : List Leaf) (more : List (List Leaf)) (i : ℕ) → KindFirst ls → KindsFirst more → Given rows text i ls → Given rows text (i + length ls) (joined more)
      → whole_rows rows ≡ i + length ls + length (joined more) → entity_end rows i ≡ i + length ls
  entity_end_lem ls more i k ks g h w =
      let others = along_each (λ i x. NoKind x) NoKind (λ i x h. h) 1 k.others k.none in
      let n : length ls ≡ suc (length k.others) = ap length k.first in
      let e : i + 1 + length k.others ≡ i + length ls = omega arith in
      let rest : Given rows text (i + 1) k.others = (subst (λ (xs : List Leaf). Given rows text i xs) k.first g).1 in
      next_past rows (length k.others) (whole_rows rows) (i + 1) (omega arith) (quiet k.others (i + 1) rest others)
      ∙ ap (λ (j : ℕ). next_kind rows (whole_rows rows - j) j) e
      ∙ next_entity more (i + length ls) ks h w

  good_part : (a b : List Leaf) (i : ℕ) → GoodFrom rows text i (a ++ b) → GoodFrom rows text i a × GoodFrom rows text (i + length a) b
  good_part a b i h = ((λ k p q. h k p (omega (arith, length-append a b))), λ k p q. h k (omega arith) (omega (arith, length-append a b)))

  -- One entry is stored after what stands before it
  entry_stored : (ls : List Leaf) (i : ℕ) (a r : List ℕ) → entity_end rows i ≡ i + length ls → Each Sized ls → Given rows text i ls → GoodFrom rows text i ls → length (bytes_of ls) < 4294967296 → 4 + length (bytes_of ls) ≤ length r
      → (end : ℕ) (after : List ℕ) → spot end after ≡ stored_payload rows text i (spot (length a + 4) (a ++ r))
      → spot end (length_stored (length a) end after)
      ≡ spot (length (a ++ (four (length (bytes_of ls)) ++ bytes_of ls))) ((a ++ (four (length (bytes_of ls)) ++ bytes_of ls)) ++ drop (4 + length (bytes_of ls)) r)
  entry_stored ls i a r n s g y small room end after e =
      let b = bytes_of ls in
      let t : List ℕ = take 4 r in
      let u : List ℕ = drop 4 r in
      let tl : length t ≡ 4 = length-take-le 4 r (omega arith) in
      let m : entity_end rows i - i ≡ length ls = omega arith in
      let at : length a + 4 ≡ length (a ++ t) = omega (arith, length-append a t) in
      let split : a ++ r ≡ (a ++ t) ++ u = ap (λ (z : List ℕ). a ++ z) (sym (take-append-drop 4 r)) ∙ sym (append_assoc a t u) in
      let assoc : (a ++ t) ++ b ≡ a ++ (t ++ b) = append_assoc a t b in
      let d : drop (length b) u ≡ drop (4 + length b) r = drop-drop (length b) 4 r in
      let stored : spot end after ≡ spot (length (a ++ (t ++ b))) ((a ++ (t ++ b)) ++ drop (4 + length b) r) =
      e ∙ rw (m, at, split) (stored_leaves rows text ls i (a ++ t) u s g y (omega (arith, length-drop 4 r)) ∙ rw (assoc, d)) in
      let same : length (a ++ (t ++ b)) ≡ length (a ++ (four (length b) ++ b)) = omega (arith, length-append a (t ++ b), length-append t b, length-append a (four (length b) ++ b), length-append (four (length b)) b) in
      ap (λ (p : Spot). spot p.at (length_stored (length a) p.at p.dest)) stored
      ∙ ap (spot (length (a ++ (t ++ b)))) (length_over a t b (drop (4 + length b) r) tl small)
      ∙ ap (λ (k : ℕ). spot k ((a ++ (four (length b) ++ b)) ++ drop (4 + length b) r)) same

  -- So are the entries of all entities
  entries_stored : (all : List (List Leaf)) (i : ℕ) (a r : List ℕ) → KindsFirst all → Each Sized (joined all) → Given rows text i (joined all) → GoodFrom rows text i (joined all) → whole_rows rows ≡ i + length (joined all)
      → length (entries_of all) ≤ limit → length (entries_of all) ≤ length r
      → (p q : Spot) → p ≡ spot (length a) (a ++ r) → Leads i p q → q.dest ≡ (a ++ entries_of all) ++ drop (length (entries_of all)) r
  entries_stored [] i a r k s g y w most room p q e (ends h) = ap (λ (x : Spot). x.dest) e ∙ ap (λ (x : List ℕ). x ++ r) (sym (append-nil a))
  entries_stored [] i a r k s g y w most room p q e (full h) = ap (λ (x : Spot). x.dest) e ∙ ap (λ (x : List ℕ). x ++ r) (sym (append-nil a))
  entries_stored [] i a r k s g y w most room p q e (goes h f z) = absurd (omega arith)
  entries_stored (ls ∷ more) i a r k s g y w most room p q e (ends h) = let n = ap length k.0.first in absurd (omega (arith, length-append ls (joined more)))
  entries_stored (ls ∷ more) i a r k s g y w most room p q e (full h) =
      let d = ap (λ (x : Spot). length x.dest) e in
      let t = ap (λ (x : Spot). x.at) e in
      absurd (omega (arith, length-append a r, length-append (four (length (bytes_of ls)) ++ bytes_of ls) (entries_of more), length-append (four (length (bytes_of ls))) (bytes_of ls)))
  entries_stored (ls ∷ more) i a r k s g y w most room p q e (goes {at = at} {end = end} {dest = dest} {after = after} h f z) =
      let ms = joined more in
      let b = bytes_of ls in
      let en : List ℕ = four (length b) ++ b in
      let es = entries_of more in
      let (s₁, s₂) = each_part Sized ls ms s in
      let (g₁, g₂) = along_part (There rows text) i ls ms g in
      let (y₁, y₂) = good_part ls ms i y in
      let n = length-append ls ms in
      let l : length (en ++ es) ≡ 4 + length b + length es = omega (arith, length-append en es, length-append (four (length b)) b) in
      let x = entity_end_lem ls more i k.0 k.1 g₁ g₂ (omega arith) in
      let t : at ≡ length a = ap (λ (x : Spot). x.at) e in
      let u : dest ≡ a ++ r = ap (λ (x : Spot). x.dest) e in
      let f₁ : spot end after ≡ stored_payload rows text i (spot (length a + 4) (a ++ r)) = rw (← t, ← u) f in
      let v = entry_stored ls i a r x s₁ g₁ y₁ (omega arith) (omega arith) end after f₁ in
      let v₁ : spot end (length_stored at end after) ≡ spot (length (a ++ en)) ((a ++ en) ++ drop (4 + length b) r) = rw t v in
      let z₁ : Leads (i + length ls) (spot end (length_stored at end after)) q = subst (λ (j : ℕ). Leads j (spot end (length_stored at end after)) q) x z in
      entries_stored more (i + length ls) (a ++ en) (drop (4 + length b) r) k.1 s₂ g₂ y₂ (omega arith) (omega arith) (omega (arith, length-drop (4 + length b) r)) _ q v₁ z₁
      ∙ ap (λ (y : List ℕ). y ++ drop (length es) (drop (4 + length b) r)) (append_assoc a en es)
      ∙ ap (λ (y : List ℕ). (a ++ (en ++ es)) ++ y) (drop-drop (length es) (4 + length b) r ∙ ap (λ (m : ℕ). drop m r) (sym l))

-- Storing entries meets its contract
pub stores_entries : (rows text dest : List ℕ) (q : Spot) → Leads rows text 0 (spot 0 dest) q → StoresEntries rows text dest q.dest
stores_entries rows text dest q run ls more kinds g good small fits =
    let all = joined (ls ∷ more) in
    let w : whole_rows rows ≡ 0 + length all = omega (arith, g.whole) in
    let t = along_map (λ i x. RowGives rows text i x × Sized x) (There rows text) 0 all (λ k x a b h. (omega arith, h.0)) g.give in
    let k = good_sound rows text (whole_rows rows) (all_good rows text good) in
    let s = along_each (λ i x. RowGives rows text i x × Sized x) Sized (λ i x h. h.1) 0 all g.give in
    entries_stored rows text (ls ∷ more) 0 [] dest kinds s t (λ i p z. k i (given_there rows text 0 all t i p z)) w small fits (spot 0 dest) q refl run
