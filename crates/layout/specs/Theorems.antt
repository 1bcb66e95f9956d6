-- The theorems about the definitions, as statements, for every layout. Each comment names the proof, in proofs/.
use Rattle.std.specs.Prelude.{ℕ, ◌+◌, ◌*◌, ◌≤◌, ◌<◌, ◌↔◌, ◌≡◌, eqb, length, get_or}
use mathlib.Core.List.{List, [], ◌∷◌, ◌++◌, Memᴰ}
use Rattle.layout.specs.Layout.{Leaf, Layout, Value, leaves, Proper}
use Rattle.layout.specs.Written.{leaf_bytes, bytes_of, bytes, Stand, row_width, rows_from}
use Rattle.layout.specs.Reading.{ok, refuse, read}
use Rattle.layout.specs.Entities.{SqlMapping, FunctionMetadataType, Entity}
use Rattle.layout.specs.BadReads.{BadRead}
use Rattle.layout.specs.Answers.{Answer, refused, Result}
use Rattle.layout.specs.Alone.{Derives, RefusalAlone, ExactAlone, payload_numbers, metadata_numbers}
use Rattle.layout.specs.ReadAlone.{read_alone, reading_alone}

-- The numbers of s are bytes
abbrev pub Bytes : List ℕ → Type 0
Bytes s = (i : ℕ) → i < length s → get_or s i 0 < 256

-- An answer accepts exactly if its number is 0
abbrev pub Told : Answer → Type 0
Told a = eqb a.number 0 ≡ a.accepts

-- A reading accepts exactly the bytes that a proper value derives, and gives its leaves: `read_exact` in InBytes.antt
abbrev pub ReadExact : Type 0
ReadExact =
    (L : Layout) (s : List ℕ) → Bytes s → (at : ℕ) (ls : List Leaf) (end : ℕ)
    → (read L s at ≡ ok ls end) ↔ ((v : Value L) × Proper L v × (leaves L v ≡ ls) × Stand s at (bytes L v) end)

-- A reading refuses exactly at the first bad read: `bad_read_exact` in BadReads.antt
abbrev pub BadReadExact : Type 0
BadReadExact =
    (L : Layout) (s : List ℕ) → Bytes s → (at n p : ℕ) → (read L s at ≡ refuse n p) ↔ BadRead s L at n p

-- A proper value is determined by its bytes, whatever follows them: `value_unique` in InBytes.antt
abbrev pub ValueUnique : Type 0
ValueUnique =
    (L : Layout) (v w : Value L) (r t : List ℕ) → Proper L v → Proper L w → bytes L v ++ r ≡ bytes L w ++ t → (v ≡ w) × (r ≡ t)

-- A leaf takes at least one byte: `leaf_byte` in Rows.antt
abbrev pub LeafByte : Type 0
LeafByte = (x : Leaf) → 1 ≤ length (leaf_bytes x)

-- So leaves never outnumber their bytes: `leaves_bytes` in Rows.antt
abbrev pub LeavesBytes : Type 0
LeavesBytes = (ls : List Leaf) → length ls ≤ length (bytes_of ls)

-- There is a row for each leaf: `rows_length` in Rows.antt
abbrev pub RowsLength : Type 0
RowsLength = (at : ℕ) (ls : List Leaf) → length (rows_from at ls) ≡ row_width * length ls

-- The rows of later leaves begin after the bytes of those before them: `rows_append` in Rows.antt
abbrev pub RowsAppend : Type 0
RowsAppend = (at : ℕ) (a b : List Leaf) → rows_from at (a ++ b) ≡ rows_from at a ++ rows_from (at + length (bytes_of a)) b

-- The reading of one value alone meets the statement of demand 3: `alone_exact` in Alone.antt
abbrev pub AloneExact : Type 0
AloneExact =
    (L : Layout) (entities : ℕ) (s : List ℕ) → Bytes s → (table : List ℕ) → ExactAlone L entities s table (reading_alone L entities s table)

-- A refusal of one value alone is returned exactly under its condition: `refusal_alone` in Alone.antt
abbrev pub RefusalAloneExact : Type 0
RefusalAloneExact =
    (L : Layout) (entities : ℕ) (s : List ℕ) → Bytes s → (n p : ℕ) → (read_alone L entities s ≡ refuse n p) ↔ RefusalAlone L s n p

-- And no other result meets it: `alone_only` in Alone.antt
abbrev pub AloneOnly : Type 0
AloneOnly =
    (L : Layout) (entities : ℕ) (s : List ℕ) → Bytes s → (table : List ℕ) (r : Result)
    → ExactAlone L entities s table r → r ≡ reading_alone L entities s table

-- Its answer accepts exactly if the number is 0: `alone_told` in Alone.antt
abbrev pub AloneTold : Type 0
AloneTold =
    (L : Layout) (entities : ℕ) (s : List ℕ) → Bytes s → (table : List ℕ) → Told (reading_alone L entities s table).answer

-- The number of a bad read is one of 5 to 11: `bad_read_numbered` in Judges.antt
abbrev pub BadReadNumbered : Type 0
BadReadNumbered = (L : Layout) (s : List ℕ) (at n p : ℕ) → BadRead s L at n p → (5 ≤ n) × (n ≤ 11)

-- In a mapping, wherever it occurs, it is 5 to 7 or 9: `mapping_bad_read` in Numbered.antt
abbrev pub MappingBadRead : Type 0
MappingBadRead = (s : List ℕ) (at n p : ℕ) → BadRead s SqlMapping at n p → Memᴰ n (5 ∷ 6 ∷ 7 ∷ 9 ∷ [])

-- And in a metadata record: `metadata_bad_read` in Numbered.antt
abbrev pub MetadataBadRead : Type 0
MetadataBadRead = (s : List ℕ) (at n p : ℕ) → BadRead s FunctionMetadataType at n p → Memᴰ n (5 ∷ 6 ∷ 7 ∷ 9 ∷ [])

-- A payload alone is refused only with 1 and 5 to 13: `payload_numbered` in Numbered.antt
abbrev pub PayloadNumbered : Type 0
PayloadNumbered =
    (s : List ℕ) → Bytes s → (table : List ℕ) (n p : ℕ) → (reading_alone Entity 1 s table).answer ≡ refused n p → Memᴰ n payload_numbers

-- A metadata record alone only with 1, 5 to 7, 9, 12 and 13: `metadata_numbered` in Numbered.antt
abbrev pub MetadataNumbered : Type 0
MetadataNumbered =
    (s : List ℕ) → Bytes s → (table : List ℕ) (n p : ℕ)
    → (reading_alone FunctionMetadataType 0 s table).answer ≡ refused n p → Memᴰ n metadata_numbers

-- And likewise a mapping: `mapping_numbered` in Numbered.antt
abbrev pub MappingNumbered : Type 0
MappingNumbered =
    (s : List ℕ) → Bytes s → (table : List ℕ) (n p : ℕ) → (reading_alone SqlMapping 0 s table).answer ≡ refused n p → Memᴰ n metadata_numbers

-- No bytes have two derivations: `alone_unique` in Alone.antt
abbrev pub AloneUnique : Type 0
AloneUnique = (L : Layout) (s : List ℕ) (v w : Value L) → Derives L s v → Derives L s w → v ≡ w
