-- The records of a section are those of the entities of its derivation.
use Prim.Native.Nat.{ℕ, zero, suc, ◌+◌, ◌-◌, ◌<◌}
use native.Mathlib.Omega.{arith}
use native.Mathlib.Nat.{zero-add}
use mathlib.Core.List.{List, [], ◌∷◌, ◌++◌}
use mathlib.Core.Path.{◌≡◌, refl, ap, ◌∙◌}
use lib.ListN.{length, get_or, length-append}
use Rattle.layout.specs.Layout.{Value, leaves}
use Rattle.layout.specs.Written.{bytes}
use Rattle.layout.specs.Entities.{Entity, value_in}
use Rattle.framing.specs.Entries.{sentinel_bytes}
use Rattle.section.specs.Derivation.{Item, sentinel, entity, entry, entries, Placed, placed, total_leaves, Derivation, entities_of}
use Rattle.section.proofs.Section.{section_complete}
use Rattle.directory.specs.Directory.{records_from, directory_of}
use Rattle.directory.specs.Exact.{EntityWith, record_by}
use Rattle.directory.specs.Theorems.{RecordsExact}
use Rattle.directory.specs.declared.Record.{Record}

pub length_records : (row : ℕ) (es : List Placed) → length (records_from row es) ≡ length es
length_records row [] = refl
length_records row (e ∷ es) = ap suc (length_records (row + length e.content) es)

-- The record after some items
record_after : (at row : ℕ) (before after : List Item) (v : Value Entity) (other : Record)
    → get_or (records_from row (placed at (before ++ (entity v ∷ after)))) (length (placed at before)) other
    ≡ record { kind = value_in (leaves Entity v) 0; start = at + length (entries before); length = length (entry (entity v)); first_row = row + total_leaves (placed at before); row_count = length (leaves Entity v) }
record_after at row [] after v other =
    let a : at + 4 - 4 ≡ at + 0 = omega arith in
    let b : row ≡ row + 0 = omega arith in
    let c : 4 + length (bytes Entity v) ≡ length (entry (entity v)) = omega arith in
    λ i. record { kind = value_in (leaves Entity v) 0; start = a i; length = c i; first_row = b i; row_count = length (leaves Entity v) }
record_after at row (sentinel ∷ is) after v other =
    let a : at + 4 + length sentinel_bytes + length (entries is) ≡ at + length (entries (sentinel ∷ is)) = omega arith in
    record_after (at + 4 + length sentinel_bytes) row is after v other
    ∙ λ i. record { kind = value_in (leaves Entity v) 0; start = a i; length = length (entry (entity v)); first_row = row + total_leaves (placed at (sentinel ∷ is)); row_count = length (leaves Entity v) }
record_after at row (entity u ∷ is) after v other =
    let a : at + 4 + length (bytes Entity u) + length (entries is) ≡ at + length (entries (entity u ∷ is)) = omega (arith, length-append (bytes Entity u) (entries is)) in
    let b : row + length (leaves Entity u) + total_leaves (placed (at + 4 + length (bytes Entity u)) is) ≡ row + total_leaves (placed at (entity u ∷ is)) = omega arith in
    record_after (at + 4 + length (bytes Entity u)) (row + length (leaves Entity u)) is after v other
    ∙ λ i. record { kind = value_in (leaves Entity v) 0; start = a i; length = length (entry (entity v)); first_row = b i; row_count = length (leaves Entity v) }

-- The record of an entity of a derivation
pub record_with : (d : Derivation) {index : ℕ} (e : EntityWith index d.items) (other : Record) → get_or (records_from 0 (entities_of d)) index other ≡ record_by e
record_with d e other = rw (e.items, ← e.counted) (record_after 0 0 e.before e.after e.value other ∙ rw (zero-add, zero-add))

pub records_exact : RecordsExact
unfolding directory_of
records_exact s d g = rw (section_complete s d g) (length_records 0 (entities_of d), λ index e other. record_with d e other)

-- How many entities there are does not depend on where they stand
counts : (at from : ℕ) (is : List Item) → length (placed at is) ≡ length (placed from is)
counts at from [] = refl
counts at from (sentinel ∷ is) = counts (at + 4 + length sentinel_bytes) (from + 4 + length sentinel_bytes) is
counts at from (entity v ∷ is) = ap suc (counts (at + 4 + length (bytes Entity v)) (from + 4 + length (bytes Entity v)) is)

-- An entity with each index
pub entity_with : (is : List Item) (index : ℕ) → index < length (placed 0 is) → EntityWith index is
entity_with [] index h = absurd (omega arith)
entity_with (sentinel ∷ is) index h =
    let e = entity_with is index (omega (arith, counts (0 + 4 + length sentinel_bytes) 0 is)) in
    record { before = sentinel ∷ e.before; value = e.value; after = e.after; items = ap (λ (l : List Item). sentinel ∷ l) e.items; counted = counts (0 + 4 + length sentinel_bytes) 0 e.before ∙ e.counted }
entity_with (entity v ∷ is) zero h = record { before = []; value = v; after = is; items = refl; counted = refl }
entity_with (entity v ∷ is) (suc index) h =
    let e = entity_with is index (omega (arith, counts (0 + 4 + length (bytes Entity v)) 0 is)) in
    record { before = entity v ∷ e.before; value = e.value; after = e.after; items = ap (λ (l : List Item). entity v ∷ l) e.items; counted = ap suc (counts (0 + 4 + length (bytes Entity v)) 0 e.before ∙ e.counted) }

-- And an index below their number for each entity
placed_more : (at : ℕ) (before after : List Item) (v : Value Entity) → length (placed at before) < length (placed at (before ++ (entity v ∷ after)))
placed_more at [] after v = omega arith
placed_more at (sentinel ∷ is) after v = placed_more (at + 4 + length sentinel_bytes) is after v
placed_more at (entity u ∷ is) after v = omega (arith, placed_more (at + 4 + length (bytes Entity u)) is after v)

pub index_below : (is : List Item) {index : ℕ} (e : EntityWith index is) → index < length (placed 0 is)
index_below is e = rw (e.items, ← e.counted) (placed_more 0 e.before e.after e.value)
