-- The theorems about the definitions, as statements. Each comment names the proof, in proofs/.
use Rattle.std.specs.Prelude.{ℕ, ◌+◌, ◌*◌, ◌≤◌, List, ◌∷◌, ◌++◌, map, ◌↔◌, ◌≡◌, length, replicate}
use Rattle.layout.specs.Reading.{ok, refuse}
use Rattle.layout.specs.Answers.{limit, Result}
use Rattle.layout.specs.Theorems.{Bytes, Told}
use Rattle.section.specs.Derivation.{Item, sentinel, Placed, Derivation, entries, derive, placed, total_leaves, entities_of, sentinels, entity_sizes}
use Rattle.section.specs.Section.{read_section, reading}
use Rattle.section.specs.Refusals.{SectionRefusal}
use Rattle.section.specs.Demand3.{DerivedBy, Good, Demand3}

-- A section is accepted exactly if it is derived, with the entities of its derivation: `section_exact` in Section.antt
abbrev pub SectionExact : Type 0
SectionExact =
    (s : List ℕ) → Bytes s → (es : List Placed)
    → ((end : ℕ) × (read_section s ≡ ok es end)) ↔ ((d : Derivation) × Good s d × (es ≡ entities_of d))

-- A section is refused exactly under the condition of its refusal: `refusal_exact` in Refusals.antt
abbrev pub RefusalExact : Type 0
RefusalExact = (s : List ℕ) → Bytes s → (n p : ℕ) → (read_section s ≡ refuse n p) ↔ SectionRefusal s n p

-- No section has two refusals: `refusal_unique` in Refusals.antt
abbrev pub RefusalUnique : Type 0
RefusalUnique = (s : List ℕ) → Bytes s → (n p m q : ℕ) → SectionRefusal s n p → SectionRefusal s m q → (n ≡ m) × (p ≡ q)

-- No section has two derivations: `derivation_unique` in Derivation.antt
abbrev pub DerivationUnique : Type 0
DerivationUnique = (s : List ℕ) (d e : Derivation) → DerivedBy s d → DerivedBy s e → d ≡ e

-- 4 for each entity and its leaves' bytes, 13 for each sentinel, and the padding add up to the section's length: `byte_sum` in
-- Derivation.antt
abbrev pub ByteSum : Type 0
ByteSum =
    (d : Derivation)
    → 4 * length (entities_of d) + entity_sizes (entities_of d) + 13 * sentinels d.items + d.padding ≡ length (derive d)

-- Rows never outnumber the section's bytes: `rows_bound` in Derivation.antt
abbrev pub RowsBound : Type 0
RowsBound = (d : Derivation) → total_leaves (entities_of d) ≤ length (derive d)

-- The reading meets demand 3: `reading_meets` in Demand3.antt
abbrev pub ReadingMeets : Type 0
ReadingMeets = (s : List ℕ) → Bytes s → (table : List ℕ) → Demand3 s table (reading s table)

-- And no other result does: `reading_only` in Demand3.antt
abbrev pub ReadingOnly : Type 0
ReadingOnly = (s : List ℕ) → Bytes s → (table : List ℕ) (r : Result) → Demand3 s table r → r ≡ reading s table

-- Its answer accepts exactly if the number is 0: `reading_told` in Demand3.antt
abbrev pub ReadingTold : Type 0
ReadingTold = (s : List ℕ) → Bytes s → (table : List ℕ) → Told (reading s table).answer

-- Of the table before the reading only the length matters: `table_free` in Demand3.antt
abbrev pub TableFree : Type 0
TableFree = (s table other : List ℕ) → length table ≡ length other → reading s table ≡ reading s other

-- More padding changes neither counts nor rows: `padding_free` in Demand3.antt
abbrev pub PaddingFree : Type 0
PaddingFree =
    (s : List ℕ) (d : Derivation) → Good s d → (k : ℕ) → length (s ++ replicate k 0) ≤ limit
    → (table : List ℕ) → reading (s ++ replicate k 0) table ≡ reading s table

-- An entity moved on by n bytes
abbrev pub moved_by : ℕ → Placed → Placed
moved_by n e = record { at = n + e.at; content = e.content }

-- A sentinel is not an entity: those before it are unchanged, and those after it move on by its 13 bytes: `sentinel_free` in
-- Derivation.antt
abbrev pub SentinelFree : Type 0
SentinelFree =
    (before after : List Item)
    → (placed 0 (before ++ (sentinel ∷ after)) ≡ placed 0 before ++ map (moved_by 13) (placed (length (entries before)) after))
    × (placed 0 (before ++ after) ≡ placed 0 before ++ placed (length (entries before)) after)
