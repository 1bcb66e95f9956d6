-- The results of the two passes over the rows of a section.
use Prim.Native.Nat.{ℕ, zero, suc, ◌+◌, ◌≤◌}
use native.Mathlib.Omega.{arith}
use mathlib.Core.Bool.{Bool, true, false, cond}
use mathlib.Core.List.{List, [], ◌∷◌, ◌++◌, map, append-nil}
use mathlib.Core.Path.{◌≡◌, refl, ap, subst, ◌∙◌}
use lib.Dec.{eqb, leb}
use lib.ListN.{length, drop, length-append}
use borrow.Author.Tests.{eq-eqb}
use Rattle.layout.specs.Layout.{Value, leaves, Fits}
use Rattle.layout.specs.Written.{four, bytes_of, bytes}
use Rattle.layout.specs.Entities.{Entity}
use Rattle.layout.specs.Reading.{Outcome, ok, ◌>>=◌, walk}
use Rattle.layout.specs.Answers.{limit, whole_rows}
use Rattle.layout.proofs.InBytes.{bytes_of_append}
use Rattle.layout.proofs.Each.{Each, each_part, each_join, each_of, meets_each}
use Rattle.section.specs.Derivation.{entity, ProperItems}
use Rattle.section.specs.Demand3.{Good}
use Rattle.writing.specs.Rows.{in_rows}
use Rattle.writing.specs.State.{new_writer, stopped_once, length_taken}
use Rattle.writing.specs.State.{WriteState}
use Rattle.table.specs.Answers.{Total, counted, uncounted}
use Rattle.writing.specs.Run.{closing}
use Rattle.writing.specs.Writing.{length_in, written}
use Rattle.writing.specs.Writing as writing
use Rattle.writing.specs.Refusals.{RowGives, Sized, Writable, ExactLength, ExactWriting}
use Rattle.storing.specs.Storing.{Gives, KindsFirst, entries_of, StoresEntries}
use Rattle.writing.proofs.Along.{along_also}
use Rattle.writing.proofs.Spelled.{spells_given, fitting}
use Rattle.writing.proofs.Measured.{Stands, Reached, arrives, halts, reached_as, stands_length, stands_new, consumed}
use Rattle.section_writer.specs.Form.{section_of, section_bytes, section_leaves, EachAllowed, section}
use Rattle.section_writer.specs.Writing.{entities_in, spelled_entities, measured_section, write_section}
use Rattle.section_writer.specs.Private.{consume_entry, consume_entities}
use Rattle.writing.proofs.Passes.{length_passed, refusal_passed, bytes_passed}
use Rattle.section_writer.proofs.EntityKinds.{kind_first}
use Rattle.section_writer.proofs.Spelled.{takes_section}

-- The bytes of an entry come before those of the others
entry_length : (v : Value Entity) (vs : List (Value Entity)) → length (section_bytes (v ∷ vs)) ≡ 4 + length (bytes Entity v) + length (section_bytes vs)
entry_length v vs =
    omega (arith, length-append (four (length (bytes Entity v)) ++ bytes Entity v) (section_bytes vs), length-append (four (length (bytes Entity v))) (bytes Entity v))

module _ (rows text : List ℕ) where
  -- A writer after the first of several entities
  reached_more : (v : Value Entity) (k : ℕ) (w : WriteState) (m : Outcome ℕ (List (Value Entity))) → Reached rows text (λ vs. k + 4 + length (bytes Entity v) + length (section_bytes vs)) w m
      → Reached rows text (λ vs. k + length (section_bytes vs)) w (m >>= λ vs end. ok (v ∷ vs) end)
  reached_more v k w m (arrives {v = vs} {end = end} (s, r)) =
      let e : k + 4 + length (bytes Entity v) + length (section_bytes vs) ≡ k + length (section_bytes (v ∷ vs)) = omega (arith, entry_length v vs) in
      arrives {v = v ∷ vs} {end = end} (subst (Stands rows text w) e s, r)
  reached_more v k w m (halts h) = halts h

  -- The first pass takes the entities that are read from the rows, or is refused
  reached : (n : ℕ) (w : WriteState) (k : ℕ) → Stands rows text w k → Reached rows text (λ vs. k + length (section_bytes vs)) (consume_entities rows text n w) (entities_in rows text n w.row)
  unfolding consume_entities entities_in
  reached zero w k s = let e : (stopped_once w).refusal ≡ 14 = rw (eq-eqb w.refusal 0 s.going) in halts e
  reached (suc n) w k s = go (walk (in_rows rows text) Entity w.row) (consumed rows text Entity (length_taken w) (k + 4) (stands_length rows text w k s)) (reached n)
    where
      next : WriteState
      next = consume_entry rows text w

      more : (v : Value Entity) → Stands rows text next (k + 4 + length (bytes Entity v)) → (b : Bool)
          → ((w : WriteState) (k : ℕ) → Stands rows text w k → Reached rows text (λ vs. k + length (section_bytes vs)) (consume_entities rows text n w) (entities_in rows text n w.row))
          → Reached rows text (λ vs. k + length (section_bytes vs)) (cond b next (consume_entities rows text n next))
          (cond b (ok (v ∷ []) next.row) (entities_in rows text n next.row >>= λ vs end. ok (v ∷ vs) end))
      more v s true f =
          let e : k + 4 + length (bytes Entity v) ≡ k + length (section_bytes (v ∷ [])) = omega (arith, entry_length v []) in
          arrives {v = v ∷ []} {end = next.row} (subst (Stands rows text next) e s, refl)
      more v s false f = reached_more v k (consume_entities rows text n next) (entities_in rows text n next.row) (f next (k + 4 + length (bytes Entity v)) s)

      go : (m : Outcome ℕ (Value Entity)) → Reached rows text (λ v. k + 4 + length (bytes Entity v)) next m
          → ((w : WriteState) (k : ℕ) → Stands rows text w k → Reached rows text (λ vs. k + length (section_bytes vs)) (consume_entities rows text n w) (entities_in rows text n w.row))
          → Reached rows text (λ vs. k + length (section_bytes vs))
          (cond (eqb next.refusal 0) (cond (leb (whole_rows rows) next.row) next (consume_entities rows text n next)) next)
          (m >>= λ v end. cond (leb (whole_rows rows) end) (ok (v ∷ []) end) (entities_in rows text n end >>= λ vs last. ok (v ∷ vs) last))
      go m (arrives {v} {end} (s, r)) f = rw (eq-eqb next.refusal 0 s.going, ← r) (more v s (leb (whole_rows rows) next.row) f)
      go m (halts h) f = let e : eqb next.refusal 0 ≡ false = ap (λ (x : ℕ). eqb x 0) h in rw e (halts h)

  pub reached_section : Reached rows text (λ vs. length (section_bytes vs)) (consume_entities rows text (whole_rows rows) new_writer) (entities_in rows text (whole_rows rows) 0)
  reached_section = reached_as rows text (λ vs. omega arith) (reached (whole_rows rows) new_writer 0 (stands_new rows text))

-- The bytes of the leaves are among those of the entries
inside : (vs : List (Value Entity)) → length (bytes_of (section_leaves vs)) ≤ length (section_bytes vs)
inside [] = omega arith
inside (v ∷ vs) =
    omega (arith, inside vs, entry_length v vs, ap length (bytes_of_append (leaves Entity v) (section_leaves vs)), length-append (bytes Entity v) (bytes_of (section_leaves vs)))

each_sized : (vs : List (Value Entity)) → EachAllowed vs → Each Sized (section_leaves vs)
each_sized [] a = tt
each_sized (v ∷ vs) a = each_join Sized (leaves Entity v) (section_leaves vs) (each_of Sized Entity v a.0) (each_sized vs a.1)

items_proper : (vs : List (Value Entity)) → EachAllowed vs → Each Fits (section_leaves vs) → length (section_bytes vs) ≤ limit → ProperItems (map entity vs)
items_proper [] a f l = tt
items_proper (v ∷ vs) a f l =
    let (g, h) = each_part Fits (leaves Entity v) (section_leaves vs) f in
    let e = entry_length v vs in
    ((meets_each Sized Fits Entity v a.0 g, omega arith), items_proper vs a.1 h (omega arith))

-- What can be written is a section by its derivation
pub proper_section : (rows text : List ℕ) (vs : List (Value Entity)) → Writable section rows text vs → Good (section_bytes vs) (section_of vs)
proper_section rows text vs w =
    let a = w.spells.allowed.1 in
    let f = fitting rows text w.texts 0 (section_leaves vs) (spells_given section rows text vs w.spells) (each_sized vs a) (omega (arith, inside vs, w.small)) in
    record { small = w.small; by = record { proper = items_proper vs a f w.small; derives = append-nil (section_bytes vs) } }

-- The entries of the leaves of entities
entries_same : (vs : List (Value Entity)) → entries_of (map (leaves Entity) vs) ≡ section_bytes vs
entries_same [] = refl
entries_same (v ∷ vs) = ap (λ (es : List ℕ). (four (length (bytes Entity v)) ++ bytes Entity v) ++ es) (entries_same vs)

kinds_first : (vs : List (Value Entity)) → KindsFirst (map (leaves Entity) vs)
kinds_first [] = tt
kinds_first (v ∷ vs) = (kind_first v, kinds_first vs)

-- The second pass stores them
pub section_stored : (rows text dest after : List ℕ) → StoresEntries rows text dest after → (vs : List (Value Entity)) → Writable section rows text vs → length (section_bytes vs) ≤ length dest
    → after ≡ section_bytes vs ++ drop (length (section_bytes vs)) dest
section_stored rows text dest after s [] w h = absurd (omega (arith, w.spells.allowed.0))
section_stored rows text dest after s (v ∷ vs) w h =
    let all = v ∷ vs in
    let e = entries_same all in
    let gives : Gives rows text (section_leaves all) = record { whole = w.spells.whole; give = along_also (RowGives rows text) Sized 0 (section_leaves all) w.spells.give (each_sized all w.spells.allowed.1) } in
    s (leaves Entity v) (map (leaves Entity) vs) (kinds_first all) gives w.texts (omega (arith, ap length e, w.small)) (omega (arith, ap length e))
    ∙ ap (λ (b : List ℕ). b ++ drop (length b) dest) e

-- The first pass gives the length
pub first_pass : (rows text : List ℕ) (w r : WriteState) (l : Total) → w ≡ new_writer → r ≡ consume_entities rows text (whole_rows rows) w → l ≡ closing rows r
    → (l ≡ length_in (measured_section rows text)) × ExactLength section rows text l
unfolding measured_section spelled_entities
first_pass rows text w r l a b e =
    let q : r ≡ consume_entities rows text (whole_rows rows) new_writer = b ∙ ap (consume_entities rows text (whole_rows rows)) a in
    length_passed section rows text _ (takes_section rows text) (proper_section rows text) _ (reached_section rows text) l (e ∙ ap (closing rows) q)

module _ (rows text dest : List ℕ) (m l : Total) (e : m ≡ length_in (measured_section rows text)) (f : l ≡ writing.fitting m (length dest)) where
  abbrev Encoded : (after : List ℕ) → Type 0
  Encoded after =
      (l ≡ length_in (write_section rows text (length dest))) × ((after ≡ written (write_section rows text (length dest)) dest) × ExactWriting section rows text dest l after)

  -- No second pass
  pub refused_whole : (n p : ℕ) → l ≡ uncounted n p → Encoded dest
  unfolding write_section measured_section spelled_entities
  refused_whole = refusal_passed section rows text _ (takes_section rows text) (proper_section rows text) dest m l e f

  -- The second pass
  pub second_pass : (n : ℕ) → l ≡ counted n → (after : List ℕ) → StoresEntries rows text dest after → Encoded after
  unfolding write_section measured_section spelled_entities
  second_pass n q after s = bytes_passed section rows text _ (takes_section rows text) (proper_section rows text) dest m l e f n q after (section_stored rows text dest after s)
