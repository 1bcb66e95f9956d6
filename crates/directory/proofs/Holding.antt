-- The record that contains a position: at most one does, and the look-up tells its index.
use Prim.Native.Nat.{ℕ, zero, suc, ◌+◌, ◌-◌, ◌≤◌, ◌<◌}
use native.Mathlib.Omega.{arith}
use native.Mathlib.Nat.{add-zero, zero-add}
use mathlib.Core.Bool.{Bool, true, false, cond, ◌&&◌, and-eq-true_iff}
use mathlib.Core.List.{List, [], ◌∷◌}
use mathlib.Core.Logic.{◌↔◌}
use mathlib.Core.Path.{◌≡◌, refl, sym, ap, ◌∙◌}
use lib.Dec.{leb}
use lib.ListN.{length, get_or}
use borrow.Author.Tests.{leb-true, le-ltb}
use Rattle.layout.specs.Layout.{leaves}
use Rattle.layout.specs.Written.{bytes}
use Rattle.layout.specs.Entities.{Entity, value_in}
use Rattle.layout.specs.Reading.{Outcome, ok, refuse}
use Rattle.layout.specs.Theorems.{Bytes}
use Rattle.layout.proofs.Walk.{all_ok}
use Rattle.framing.specs.Entries.{sentinel_bytes}
use Rattle.section.specs.Derivation.{Item, sentinel, entity, Placed, placed, Derivation, entities_of}
use Rattle.section.specs.Section.{read_section}
use Rattle.section.specs.Demand3.{Good}
use Rattle.section.proofs.Section.{section_complete, section_sound}
use Rattle.section.proofs.Refusals.{refusal_exact}
use Rattle.directory.specs.Directory.{records_from, directory_of}
use Rattle.directory.specs.Holder.{ByteHolder, holder, unheld, contains, holder_from, entity_at}
use Rattle.directory.specs.Exact.{EntityWith, record_by, ExactHolder, in_entry, in_none, not_read}
use Rattle.directory.specs.Theorems.{HolderExact, HolderRecord, OneRecord}
use Rattle.directory.specs.Private.{zeros}
use Rattle.directory.specs.declared.Record.{Record}
use Rattle.directory.proofs.Records.{length_records, record_with, entity_with, index_below}

-- Records start at the boundary of their items or after it
starts : (at row : ℕ) (is : List Item) (i : ℕ) (other : Record) → i < length (placed at is) → at ≤ (get_or (records_from row (placed at is)) i other).start
starts at row [] i other h = absurd (omega arith)
starts at row (sentinel ∷ is) i other h = omega (arith, starts (at + 4 + length sentinel_bytes) row is i other h)
starts at row (entity v ∷ is) zero other h = omega arith
starts at row (entity v ∷ is) (suc i) other h = omega (arith, starts (at + 4 + length (bytes Entity v)) (row + length (leaves Entity v)) is i other (omega arith))

pub and_false : (b : Bool) → (b && false) ≡ false
and_false true = refl
and_false false = refl

-- A record that contains the position is found
found : (at row index position : ℕ) (is : List Item) (i : ℕ) (other : Record) → i < length (placed at is) → contains (get_or (records_from row (placed at is)) i other) position ≡ true
    → holder_from index (records_from row (placed at is)) position ≡ holder (index + i)
found at row index position [] i other h c = absurd (omega arith)
found at row index position (sentinel ∷ is) i other h c = found (at + 4 + length sentinel_bytes) row index position is i other h c
found at row index position (entity v ∷ is) zero other h c = rw (c, add-zero)
found at row index position (entity v ∷ is) (suc i) other h c =
    let next : ℕ = at + 4 + length (bytes Entity v) in
    let low = starts next (row + length (leaves Entity v)) is i other (omega arith) in
    let (p, q) = (and-eq-true_iff _ _).0 c in
    let far : next ≤ position = omega (arith, low, leb-true _ position p) in
    let not : contains (record { kind = value_in (leaves Entity v) 0; start = at + 4 - 4; length = 4 + length (bytes Entity v); first_row = row; row_count = length (leaves Entity v) }) position ≡ false
    = rw (le-ltb position (at + 4 - 4 + (4 + length (bytes Entity v))) (omega arith)) (and_false (leb (at + 4 - 4) position)) in
    let k : index + 1 + i ≡ index + suc i = omega arith in
    rw not (found next (row + length (leaves Entity v)) (index + 1) position is i other (omega arith) c ∙ ap holder k)

-- What is found among records, the first of which has an index: one that contains the position; or none does
data Finds (index position : ℕ) (rs : List Record) (other : Record) : ByteHolder → Type 0 where
  finds : {k : ℕ} (i : ℕ) → k ≡ index + i → i < length rs → contains (get_or rs i other) position ≡ true → Finds index position rs other (holder k)
  finds_none : ((i : ℕ) → i < length rs → contains (get_or rs i other) position ≡ true → ⊥) → Finds index position rs other unheld

finds_first : (index position : ℕ) (r : Record) (rs : List Record) (other : Record) (b : Bool) → contains r position ≡ b → (h : ByteHolder) → Finds (index + 1) position rs other h → Finds index position (r ∷ rs) other (cond b (holder index) h)
finds_first index position r rs other true c h f = finds {k = index} 0 (omega arith) (omega arith) c
finds_first index position r rs other false c h (finds {k} i e l d) = finds {k = k} (suc i) (omega arith) (omega arith) d
finds_first index position r rs other false c h (finds_none n) = finds_none (none n)
  where
    none : ((i : ℕ) → i < length rs → contains (get_or rs i other) position ≡ true → ⊥) → (i : ℕ) → i < length (r ∷ rs) → contains (get_or (r ∷ rs) i other) position ≡ true → ⊥
    none n zero k d = let z : true ≡ false = sym d ∙ c in let y : ◌≡◌ {A = ℕ} 0 1 = cc in omega arith
    none n (suc i) k d = n i (omega arith) d

finds_holder : (index position : ℕ) (rs : List Record) (other : Record) → Finds index position rs other (holder_from index rs position)
finds_holder index position [] other = finds_none (λ i h c. absurd (omega arith))
finds_holder index position (r ∷ rs) other = finds_first index position r rs other (contains r position) refl (holder_from (index + 1) rs position) (finds_holder (index + 1) position rs other)

-- Of a derived section
module _ (d : Derivation) (position : ℕ) (other : Record) where
  abbrev rs : List Record
  rs = records_from 0 (entities_of d)

  holds_at : (i : ℕ) → i < length rs → contains (get_or rs i other) position ≡ true → holder_from 0 rs position ≡ holder i
  holds_at i h c = found 0 0 0 position d.items i other (omega (arith, h, length_records 0 (entities_of d))) c ∙ rw zero-add

  at_holder : (i : ℕ) (h : ByteHolder) → Finds 0 position rs other h → h ≡ holder i → (i < length rs) × (contains (get_or rs i other) position ≡ true)
  at_holder i h (finds {k} j a l c) e = let q : k ≡ i = cc in let m : i ≡ j = omega arith in rw m (l, c)
  at_holder i h (finds_none n) e = let z : ◌≡◌ {A = ℕ} 0 1 = cc in absurd (omega arith)

pub holder_record : HolderRecord
unfolding entity_at directory_of
holder_record s u position i other = go (read_section s) refl
  where
    go : (m : Outcome ℕ (List Placed)) → read_section s ≡ m → (entity_at s position ≡ holder i) ↔ ((i < length (directory_of s)) × (contains (get_or (directory_of s) i other) position ≡ true))
    go (refuse n p) k = rw k ((λ e. let z : ◌≡◌ {A = ℕ} 0 1 = cc in absurd (omega arith)), λ h. absurd (omega (arith, h.0)))
    go (ok es end) k =
        let (d, g, q) = all_ok (section_sound s u) k in
        rw (k, q) ((λ e. at_holder d position other i _ (finds_holder 0 position (records_from 0 (entities_of d)) other) e), λ h. holds_at d position other i h.0 h.1)

pub one_record : OneRecord
one_record s u position i j other h k c d =
    let a = (holder_record s u position i other).1 (h, c) in
    let b = (holder_record s u position j other).1 (k, d) in
    cc

-- By the derivation of a section
module _ (s : List ℕ) (d : Derivation) (g : Good s d) (position : ℕ) where
  entity_found : {index : ℕ} (e : EntityWith index d.items) → contains (record_by e) position ≡ true → holder index ≡ entity_at s position
  unfolding entity_at
  entity_found {index} e c = rw (section_complete s d g) (sym (holds_at d position zeros index (omega (arith, index_below d.items e, length_records 0 (entities_of d))) (rw (record_with d e zeros) c)))

  exactly : (h : ByteHolder) → Finds 0 position (records_from 0 (entities_of d)) zeros h → ExactHolder s position h
  exactly h (finds {k} i a l c) =
      let e = entity_with d.items i (omega (arith, l, length_records 0 (entities_of d))) in
      let q : k ≡ i = omega arith in
      rw q (in_entry d g e (rw (record_with d e zeros) at c))
  exactly h (finds_none n) = in_none d g (λ index e c. n index (omega (arith, index_below d.items e, length_records 0 (entities_of d))) (rw (record_with d e zeros) c))

  pub holder_derived : ExactHolder s position (entity_at s position)
  unfolding entity_at
  holder_derived = rw (section_complete s d g) (exactly _ (finds_holder 0 position (records_from 0 (entities_of d)) zeros))

  none_found : ((index : ℕ) (e : EntityWith index d.items) → contains (record_by e) position ≡ true → ⊥) → unheld ≡ entity_at s position
  unfolding entity_at
  none_found n = rw (section_complete s d g) (go _ (finds_holder 0 position (records_from 0 (entities_of d)) zeros))
    where
      go : (h : ByteHolder) → Finds 0 position (records_from 0 (entities_of d)) zeros h → unheld ≡ h
      go h (finds i a l c) =
          let e = entity_with d.items i (omega (arith, l, length_records 0 (entities_of d))) in
          absurd (n i e (rw (record_with d e zeros) at c))
      go h (finds_none m) = refl

holder_is : (s : List ℕ) → Bytes s → (position : ℕ) (h : ByteHolder) → ExactHolder s position h → h ≡ entity_at s position
unfolding entity_at
holder_is s u position h (in_entry d g e c) = entity_found s d g position e c
holder_is s u position h (in_none d g n) = none_found s d g position n
holder_is s u position h (not_read {n} {p} r) = rw ((refusal_exact s u n p).1 r)

holder_meets : (s : List ℕ) → Bytes s → (position : ℕ) → ExactHolder s position (entity_at s position)
unfolding entity_at
holder_meets s u position = go (read_section s) refl
  where
    go : (m : Outcome ℕ (List Placed)) → read_section s ≡ m → ExactHolder s position (entity_at s position)
    go (ok es end) k = let (d, g, q) = all_ok (section_sound s u) k in holder_derived s d g position
    go (refuse n p) k = rw k (not_read ((refusal_exact s u n p).0 k))

pub holder_exact : HolderExact
holder_exact s u position h = (holder_is s u position h, λ e. rw e (holder_meets s u position))
