-- The records one after the other, from the rows of an accepted section.
use Prim.Native.Nat.{ℕ, zero, suc, ◌+◌, ◌-◌, ◌*◌, ◌≤◌, ◌<◌}
use native.Mathlib.Omega.{arith}
use mathlib.Core.List.{List, [], ◌∷◌, ◌++◌, append_assoc}
use mathlib.Core.Path.{◌≡◌, refl, sym, ap, ◌∙◌}
use lib.ListN.{length, drop, replicate}
use Rattle.layout.specs.Layout.{Value, leaves}
use Rattle.layout.specs.Written.{bytes_of, bytes, row_width, rows_from}
use Rattle.layout.specs.Entities.{Entity, value_in}
use Rattle.layout.specs.Answers.{limit}
use Rattle.layout.proofs.Rows.{leaves_bytes, rows_length}
use Rattle.layout.proofs.InBytes.{rest_after}
use Rattle.raw_bytes.specs.Bytes.{number_or0}
use Rattle.raw_bytes.proofs.Number.{number_there}
use Rattle.table.specs.Table.{row_of}
use Rattle.table.specs.declared.Row.{Row}
use Rattle.framing.proofs.Framing.{EntryAt, entry_at}
use Rattle.section.specs.Derivation.{Item, sentinel, entity, payload, entries, ProperItems, Placed, placed, rows_of}
use Rattle.section.proofs.Derivation.{payload_some, payload_small}
use Rattle.directory.specs.Directory.{record_of, records_from}
use Rattle.directory.specs.Private.{Guessed, RowsEnd, EntityIn, row_after, Between, After, record_before}
use Rattle.directory.specs.declared.Record.{Record}
use Rattle.directory.proofs.Rows.{kind_row, entry_rows}

-- The record of the entity after another record
module _ {s t : List ℕ} {r : Record} (b : Between s t r) (row : Row) (e : row ≡ row_of t (row_after r)) where
  pub offset_is : row.offset ≡ b.next.at
  offset_is = ap (λ (x : Row). x.offset) (e ∙ b.there.kind)

  pub start_there : 4 ≤ row.offset
  start_there = omega (arith, offset_is, b.there.begins)

  module _ (size : ℕ) (z : size ≡ number_or0 s (row.offset - 4)) where
    size_is : size ≡ length (bytes_of b.next.content)
    size_is = z ∙ ap (λ (n : ℕ). number_or0 s (n - 4)) offset_is ∙ b.there.size

    pub guessed : Guessed t (row_after r + r.row_count) (row.offset - 4) (row.offset - 4 + (4 + size))
    guessed =
        let end : row.offset - 4 + (4 + size) ≡ b.next.at + length (bytes_of b.next.content) = omega (arith, offset_is, start_there, size_is) in
        record { first = row_after r; next = row_after r + length b.next.content; rows = rw (end, offset_is) b.there.rows; low = omega arith }

    module _ (next : ℕ) (k : RowsEnd t (row_after r + r.row_count) (row.offset - 4) (row.offset - 4 + (4 + size)) next) where
      next_is : next ≡ row_after r + length b.next.content
      unfolding guessed
      next_is = k guessed

      pub rows_some : row_after r ≤ next
      rows_some = omega (arith, next_is)

      pub count_small : next - row_after r ≤ limit
      count_small = omega (arith, next_is, b.there.few)

      pub record_is : ◌≡◌ {A = Record} (record { kind = row.value; start = row.offset - 4; length = 4 + size; first_row = row_after r; row_count = next - row_after r }) (record_of (row_after r) b.next)
      record_is =
          let kind : row.value ≡ value_in b.next.content 0 = ap (λ (x : Row). x.value) (e ∙ b.there.kind) in
          let start : row.offset - 4 ≡ b.next.at - 4 = ap (λ (n : ℕ). n - 4) offset_is in
          let long : 4 + size ≡ 4 + length (bytes_of b.next.content) = ap (λ (n : ℕ). 4 + n) size_is in
          let count : next - row_after r ≡ length b.next.content = omega (arith, next_is) in
          λ i. record { kind = kind i; start = start i; length = long i; first_row = row_after r; row_count = count i }

-- From a boundary of s and a row of t on, the items' entries and rows
pub record Stored (s t : List ℕ) (at row : ℕ) (is : List Item) : Type 0 where
  pub small : length s ≤ limit
  pub inside : at ≤ length s
  pub padding : ℕ
  pub proper : ProperItems is
  pub derives : entries is ++ replicate padding 0 ≡ drop at s
  pub few : row ≤ at
  pub zeros : ℕ
  pub rows : drop (row_width * row) t ≡ rows_of (placed at is) ++ replicate zeros 0

module _ {s t : List ℕ} {at row : ℕ} {i : Item} {is : List Item} (w : Stored s t at row (i ∷ is)) where
  stored_entry : EntryAt s at (payload i) (entries is ++ replicate w.padding 0)
  stored_entry = entry_at s at (payload i) (entries is ++ replicate w.padding 0) w.inside (payload_some i) (payload_small i w.proper.0) (simp append_assoc at (sym w.derives))

  stored_next : (n : ℕ) → row + n ≤ at + 4 + length (payload i) → drop (row_width * (row + n)) t ≡ rows_of (placed (at + 4 + length (payload i)) is) ++ replicate w.zeros 0
      → Stored s t (at + 4 + length (payload i)) (row + n) is
  stored_next n h e = record {
    small = w.small;
    inside = stored_entry.inside;
    padding = w.padding;
    proper = w.proper.1;
    derives = sym stored_entry.after;
    few = h;
    zeros = w.zeros;
    rows = e;
  }

-- Past a sentinel, and past an entity
past_sentinel : {s t : List ℕ} {at row : ℕ} {is : List Item} → Stored s t at row (sentinel ∷ is) → Stored s t (at + 4 + length (payload sentinel)) row is
past_sentinel {row = row} w =
    let z : row + 0 ≡ row = omega arith in
    rw z at (stored_next w 0 (omega (arith, w.few)) (rw z w.rows))

module _ {s t : List ℕ} {at row : ℕ} {v : Value Entity} {is : List Item} (w : Stored s t at row (entity v ∷ is)) where
  abbrev e : Placed
  e = record { at = at + 4; content = leaves Entity v }

  past_entity : Stored s t (at + 4 + length (bytes Entity v)) (row + length (leaves Entity v)) is
  past_entity =
      let l : List ℕ = rows_from (at + 4) (leaves Entity v) in
      let c : row_width * row + length l ≡ row_width * (row + length (leaves Entity v)) = omega (arith, rows_length (at + 4) (leaves Entity v)) in
      let rest : List ℕ = rows_of (placed (at + 4 + length (bytes Entity v)) is) in
      stored_next w (length (leaves Entity v)) (omega (arith, w.few, leaves_bytes (leaves Entity v)))
      (rw (← c) (rest_after t (row_width * row) l (rest ++ replicate w.zeros 0) (w.rows ∙ append_assoc l rest (replicate w.zeros 0))))

  entity_in : EntityIn s t row e
  entity_in =
      let there = stored_entry w in
      let z : at + 4 - 4 ≡ at = omega arith in
      record {
        begins = omega arith;
        ends = omega (arith, there.inside, w.small);
        size = ap (λ (n : ℕ). number_or0 s n) z ∙ number_there s at (omega (arith, there.inside)) ∙ there.number;
        few = omega (arith, w.few, leaves_bytes (leaves Entity v), there.inside, w.small);
        kind = kind_row t row (at + 4) w.zeros v is w.rows;
        rows = entry_rows t row (at + 4) w.zeros v is w.rows (omega arith);
      }

-- The record before each of the items' entities is followed by that entity
pub record Leads (s t : List ℕ) (r x : Record) : Type 0 where
  pub between : Between s t r
  pub to : (y : Record) → After s t r y → y ≡ x

pub leads : {s t : List ℕ} {at row : ℕ} (is : List Item) → Stored s t at row is → (r : Record) → row_after r ≡ row → (i : ℕ) → i < length (placed at is)
    → Leads s t (record_before r (records_from row (placed at is)) i) (record_before r (records_from row (placed at is)) (suc i))
leads {s = s} {t = t} {at = at} {row = row} [] w r q i h = absurd (omega arith)
leads {s = s} {t = t} {at = at} {row = row} (sentinel ∷ is) w r q i h = leads {s = s} {t = t} {at = at + 4 + length (payload sentinel)} {row = row} is (past_sentinel w) r q i h
leads {s = s} {t = t} {at = at} {row = row} (entity v ∷ is) w r q zero h =
    let there : EntityIn s t (row_after r) (e w) = rw q (entity_in w) in
    let b : Between s t r = record { next = e w; there = there } in
    record { between = b; to = λ y a. a b ∙ ap (λ (n : ℕ). record_of n (e w)) q }
leads {s = s} {t = t} {at = at} {row = row} (entity v ∷ is) w r q (suc i) h =
    leads {s = s} {t = t} {at = at + 4 + length (bytes Entity v)} {row = row + length (leaves Entity v)} is (past_entity w) (record_of row (e w)) refl i (omega arith)
