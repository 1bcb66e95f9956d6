-- The theorems about the definitions, as statements. Each comment names the proof, in proofs/.
use Rattle.std.specs.Prelude.{ℕ, ◌*◌, ◌≤◌, ◌<◌, List, [], ◌∷◌, ◌↔◌, ◌≡◌, length, take}
use Rattle.layout.specs.Layout.{Value}
use Rattle.layout.specs.Written.{row_width}
use Rattle.layout.specs.Entities.{Entity}
use Rattle.layout.specs.Reading.{ok, refuse}
use Rattle.layout.specs.Answers.{accepted, Result, whole_rows}
use Rattle.section.specs.Derivation.{Item, sentinel, entity, Derivation, sentinels}
use Rattle.section.specs.Section.{reading}
use Rattle.section.specs.Demand3.{Good}
use Rattle.writing.specs.Refusals.{Spells, Writable, WriteRefusal}
use Rattle.writing.specs.Theorems.{SameRow, ReadsBack}
use Rattle.section_writer.specs.Form.{section_bytes, section}
use Rattle.section_writer.specs.Writing.{write_section}

-- What is written is the section of the entities that the rows spell, if their texts are good, it is at most the limit and the
-- destination has space; and every such section is written: `section_written` in Exact.antt
abbrev pub SectionWritten : Type 0
SectionWritten =
    (rows text : List ℕ) (size : ℕ) (b : List ℕ) (n : ℕ)
    → (write_section rows text size ≡ ok b n)
    ↔ ((vs : List (Value Entity)) × Writable section rows text vs × (b ≡ section_bytes vs) × (n ≡ length b) × (n ≤ size))

-- Each refusal is answered exactly under its condition: `section_refused` in Exact.antt
abbrev pub SectionRefused : Type 0
SectionRefused =
    (rows text : List ℕ) (size n p : ℕ) → (write_section rows text size ≡ refuse n p) ↔ (WriteRefusal section rows text size n × (p ≡ 0))

-- No rows spell two lists of entities: `entities_unique` in Exact.antt
abbrev pub EntitiesUnique : Type 0
EntitiesUnique = (rows text : List ℕ) (vs us : List (Value Entity)) → Spells section rows text vs → Spells section rows text us → vs ≡ us

-- Only the offsets of text rows are read: `section_offset_free` in Exact.antt
abbrev pub SectionOffsetFree : Type 0
SectionOffsetFree =
    (rows other text : List ℕ) (size : ℕ) → length other ≡ length rows → ((i : ℕ) → i < whole_rows rows → SameRow rows other i)
    → write_section other text size ≡ write_section rows text size

-- Reading what was written, given enough rows: `read_section_lem` in RoundTrips.antt
abbrev pub ReadSection : Type 0
ReadSection =
    (rows text : List ℕ) (size : ℕ) (b : List ℕ) (n : ℕ) → write_section rows text size ≡ ok b n
    → (vs : List (Value Entity)) → Spells section rows text vs
    → (table : List ℕ) → whole_rows rows ≤ whole_rows table → ReadsBack rows text b (length vs) (reading b table)

-- The entities among items
abbrev pub entity_values : List Item → List (Value Entity)
entity_values [] = []
entity_values (sentinel ∷ is) = entity_values is
entity_values (entity v ∷ is) = v ∷ entity_values is

-- Writing what was read of a section with an entity, given enough space, from the rows that the reading stored, with the section
-- as the lent text: the section without sentinels and padding: `section_rewritten` in RoundTrips.antt
abbrev pub SectionRewritten : Type 0
SectionRewritten =
    (s : List ℕ) (d : Derivation) → Good s d → 1 ≤ length (entity_values d.items)
    → (table : List ℕ) (r : Result) (n m : ℕ) → r ≡ reading s table → r.answer ≡ accepted n m
    → (size : ℕ) → length (section_bytes (entity_values d.items)) ≤ size
    → write_section (take (row_width * m) r.table) s size
    ≡ ok (section_bytes (entity_values d.items)) (length (section_bytes (entity_values d.items)))

-- So a section with an entity and neither sentinel nor padding is written back: `section_back` in RoundTrips.antt
abbrev pub SectionBack : Type 0
SectionBack =
    (s : List ℕ) (d : Derivation) → Good s d → 1 ≤ length d.items → sentinels d.items ≡ 0 → d.padding ≡ 0
    → (table : List ℕ) (r : Result) (n m : ℕ) → r ≡ reading s table → r.answer ≡ accepted n m
    → (size : ℕ) → length s ≤ size → write_section (take (row_width * m) r.table) s size ≡ ok s (length s)
