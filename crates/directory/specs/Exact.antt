-- The contracts of the directory and of what holds a byte, in terms of derivations and of the conditions of refusals.
use Rattle.std.specs.Prelude.{ℕ, ◌≤◌, ◌<◌, true, List, ◌∷◌, ◌++◌, ◌↔◌, ◌≡◌, length, get_or}
use Rattle.layout.specs.Layout.{Value, leaves}
use Rattle.layout.specs.Entities.{Entity, value_in}
use Rattle.layout.specs.Answers.{Accepts, whole_rows, acceptance, refusal}
use Rattle.layout.specs.Theorems.{Told}
use Rattle.section.specs.Derivation.{Item, entity, entry, entries, placed, total_leaves, Derivation}
use Rattle.section.specs.Refusals.{SectionRefusal}
use Rattle.section.specs.Demand3.{Good, gives}
use Rattle.directory.specs.Directory.{Listed}
use Rattle.directory.specs.Holder.{contains, ByteHolder, holder, unheld, unread}
use Rattle.directory.specs.declared.Record.{Record}

-- The entity with an index among items: it has so many entities before it
pub record EntityWith (index : ℕ) (is : List Item) : Type 0 where
  pub before : List Item
  pub value : Value Entity
  pub after : List Item
  pub items : is ≡ before ++ (entity value ∷ after)
  pub counted : length (placed 0 before) ≡ index

-- Its record: its kind; where the entries before it end, and how long its own is; how many leaves there are before it, and how
-- many it has
abbrev pub record_by : {index : ℕ} {is : List Item} → EntityWith index is → Record
record_by e = record {
  kind = value_in (leaves Entity e.value) 0;
  start = length (entries e.before);
  length = length (entry (entity e.value));
  first_row = total_leaves (placed 0 e.before);
  row_count = length (leaves Entity e.value);
}

-- A list before and after: it has the record of each entity at the entity's index, and is otherwise unchanged
pub record ListsEntities (d : Derivation) (list after : List Record) : Type 0 where
  pub same_length : length after ≡ length list
  pub records : (index : ℕ) (e : EntityWith index d.items) → (other : Record) → get_or after index other ≡ record_by e
  pub beyond : (index : ℕ) → (gives d).entities ≤ index → (other : Record) → get_or after index other ≡ get_or list index other

-- A refusal: the table is all 0, and the list is unchanged
abbrev pub refused_listed : (number place : ℕ) → (table : List ℕ) → (list : List Record) → Listed
refused_listed n p table list = record { result = refusal n p table; list = list }

-- The contract of the reading with a directory, for a section s, a lent table, a lent list, and the result r with both
pub record ExactDirectory (s table : List ℕ) (list : List Record) (r : Listed) : Type 0 where
  -- accepted exactly if there is a derivation, the table has a row for each of its leaves, and the list a record for each of its
  -- entities
  pub accepts : Accepts r.result.answer ↔ (d : Derivation) × Good s d × ((gives d).leaf_count ≤ whole_rows table) × ((gives d).entities ≤ length list)
  -- then counts and table are those of the plain reading, and the list has the records
  pub fits : (d : Derivation) → Good s d → (gives d).leaf_count ≤ whole_rows table → (gives d).entities ≤ length list
      → (r.result ≡ acceptance (gives d) table) × ListsEntities d list r.list
  -- 21 at place 0 exactly if there is a derivation and rows enough, but the list has fewer records
  pub few_records : (r ≡ refused_listed 21 0 table list) ↔ (d : Derivation) × Good s d × ((gives d).leaf_count ≤ whole_rows table) × (length list < (gives d).entities)
  -- 13 at place 0 exactly if there is a derivation and the table has fewer rows, whatever the list has
  pub few_rows : (r ≡ refused_listed 13 0 table list) ↔ (d : Derivation) × Good s d × (whole_rows table < (gives d).leaf_count)
  -- each of 1 to 12 exactly under its condition
  pub refuses : (n p : ℕ) → n ≤ 12 → (r ≡ refused_listed n p table list) ↔ SectionRefusal s n p
  -- and bytes without a derivation meet one of these conditions
  pub others : ((d : Derivation) → Good s d → ⊥) → (n p : ℕ) × SectionRefusal s n p × (1 ≤ n) × (n ≤ 12)
  -- the number is 0 exactly if it is accepted
  pub numbered : Told r.result.answer

-- The contract of what holds the byte at a position: the entity whose entry contains it; nothing, if none does; or the section's
-- refusal
pub data ExactHolder (s : List ℕ) (position : ℕ) : ByteHolder → Type 0 where
  in_entry : {index : ℕ} (d : Derivation) → Good s d → (e : EntityWith index d.items) → contains (record_by e) position ≡ true → ExactHolder s position (holder index)
  in_none : (d : Derivation) → Good s d → ((index : ℕ) (e : EntityWith index d.items) → contains (record_by e) position ≡ true → ⊥) → ExactHolder s position unheld
  not_read : {n p : ℕ} → SectionRefusal s n p → ExactHolder s position (unread n p)
