-- What the rows of a section spell: reading entity after entity from them finds exactly that.
use Prim.Native.Nat.{ℕ, zero, suc, ◌+◌, ◌≤◌}
use native.Mathlib.Omega.{arith}
use mathlib.Core.Bool.{Bool, true, false, cond}
use mathlib.Core.List.{List, [], ◌∷◌, append-nil}
use mathlib.Core.Path.{◌≡◌, ap, ◌∙◌}
use lib.Dec.{leb}
use lib.ListN.{length, length-append}
use borrow.Author.Tests.{le-leb, lt-leb}
use Rattle.layout.specs.Layout.{Value, leaves, Meets}
use Rattle.layout.specs.Entities.{Entity}
use Rattle.layout.specs.Reading.{ok, ◌>>=◌, walk}
use Rattle.layout.specs.Answers.{whole_rows}
use Rattle.layout.proofs.Walk.{All, given, refused, all_bind}
use Rattle.writing.specs.Rows.{in_rows}
use Rattle.writing.specs.Refusals.{Sized}
use Rattle.writing.proofs.Along.{along_join, along_part}
use Rattle.writing.proofs.Spelled.{There, Given, Begins, Takes, walk_sound, walk_complete}
use Rattle.section_writer.specs.Form.{section_leaves, EachAllowed, section}
use Rattle.section_writer.specs.Writing.{entities_in}
use Rattle.section_writer.proofs.EntityKinds.{kind_first}

-- An entity has a leaf
pub some_leaf : (v : Value Entity) → 1 ≤ length (leaves Entity v)
some_leaf v = let k = kind_first v in omega (arith, ap length k.first)

-- So there are at most as many entities as leaves
pub few_entities : (vs : List (Value Entity)) → length vs ≤ length (section_leaves vs)
few_entities [] = omega arith
few_entities (v ∷ vs) = omega (arith, some_leaf v, few_entities vs, length-append (leaves Entity v) (section_leaves vs))

module _ (rows text : List ℕ) where
  abbrev Found : (row : ℕ) → List (Value Entity) → (end : ℕ) → Type 0
  Found i vs end = ((1 ≤ length vs) × EachAllowed vs) × Begins rows text i (section_leaves vs) end

  found_last : (i end : ℕ) (v : Value Entity) → Meets Sized Entity v × Begins rows text i (leaves Entity v) end → Found i (v ∷ []) end
  found_last i end v (m, b) = ((omega arith, (m, tt)), rw (append-nil (leaves Entity v)) b)

  found_more : (i next end : ℕ) (v : Value Entity) (vs : List (Value Entity)) → Meets Sized Entity v × Begins rows text i (leaves Entity v) next → Found next vs end → Found i (v ∷ vs) end
  found_more i next end v vs (m, b) (a, g) = (
    (omega arith, (m, a.1)),
    record {
      gives = along_join (There rows text) i next (leaves Entity v) (section_leaves vs) b.ends b.gives g.gives;
      ends = g.ends ∙ omega (arith, b.ends, length-append (leaves Entity v) (section_leaves vs));
    },
  )

  found : (n i : ℕ) → All (Found i) (entities_in rows text n i)
  unfolding entities_in
  found zero i = refused
  found (suc n) i =
      all_bind (walk (in_rows rows text) Entity i) _ (walk_sound Entity rows text i) λ v next p. go v next p (leb (whole_rows rows) next) (found n next)
    where
      go : (v : Value Entity) (next : ℕ) → Meets Sized Entity v × Begins rows text i (leaves Entity v) next → (b : Bool) → All (Found next) (entities_in rows text n next)
          → All (Found i) (cond b (ok (v ∷ []) next) (entities_in rows text n next >>= λ vs end. ok (v ∷ vs) end))
      go v next p true f = given (found_last i next v p)
      go v next p false f = all_bind (entities_in rows text n next) _ f λ vs end q. given (found_more i next end v vs p q)

  -- Every value that the rows give is found
  finds : (v : Value Entity) (vs : List (Value Entity)) (n i : ℕ) → EachAllowed (v ∷ vs) → Given rows text i (section_leaves (v ∷ vs)) → whole_rows rows ≡ i + length (section_leaves (v ∷ vs)) → length (v ∷ vs) ≤ n
      → entities_in rows text n i ≡ ok (v ∷ vs) (i + length (section_leaves (v ∷ vs)))
  unfolding entities_in
  finds v vs zero i a g w l = absurd (omega arith)
  finds v [] (suc n) i a g w l =
      let (h, k) = along_part (There rows text) i (leaves Entity v) [] g in
      let e : i + length (leaves Entity v) ≡ i + length (section_leaves (v ∷ [])) = omega (arith, length-append (leaves Entity v) []) in
      rw (walk_complete Entity rows text v i a.0 h, le-leb (whole_rows rows) (i + length (leaves Entity v)) (omega arith)) (ap (ok (v ∷ [])) e)
  finds v (u ∷ vs) (suc n) i a g w l =
      let ls = leaves Entity v in
      let ms = section_leaves (u ∷ vs) in
      let (h, k) = along_part (There rows text) i ls ms g in
      let s = length-append ls ms in
      let e : i + length ls + length ms ≡ i + length (section_leaves (v ∷ u ∷ vs)) = omega arith in
      let f = few_entities (u ∷ vs) in
      rw (walk_complete Entity rows text v i a.0 h, lt-leb (whole_rows rows) (i + length ls) (omega arith), finds u vs n (i + length ls) a.1 k (omega arith) (omega arith))
      (ap (ok (v ∷ u ∷ vs)) e)

  pub takes_section : Takes section rows text (entities_in rows text (whole_rows rows) 0)
  takes_section = record { sound = found (whole_rows rows) 0; complete = go }
    where
      go : (vs : List (Value Entity)) → (1 ≤ length vs) × EachAllowed vs → Given rows text 0 (section_leaves vs) → whole_rows rows ≡ length (section_leaves vs)
          → entities_in rows text (whole_rows rows) 0 ≡ ok vs (length (section_leaves vs))
      go [] a g w = absurd (omega (arith, a.0))
      go (v ∷ vs) a g w =
          let e : 0 + length (section_leaves (v ∷ vs)) ≡ length (section_leaves (v ∷ vs)) = omega arith in
          finds v vs (whole_rows rows) 0 a.1 g (omega arith) (omega (arith, few_entities (v ∷ vs))) ∙ ap (ok (v ∷ vs)) e
