-- The theorems about the definitions, as statements. Each comment names the proof, in proofs/.
use Rattle.std.specs.Prelude.{ℕ, ◌<◌, true, List, ◌↔◌, ◌≡◌, length, get_or}
use Rattle.layout.specs.Theorems.{Bytes}
use Rattle.section.specs.Derivation.{Derivation}
use Rattle.section.specs.Demand3.{Good, gives}
use Rattle.directory.specs.Directory.{directory_of, Listed, directory}
use Rattle.directory.specs.Holder.{contains, ByteHolder, holder, entity_at}
use Rattle.directory.specs.Exact.{EntityWith, record_by, ExactDirectory, ExactHolder}
use Rattle.directory.specs.declared.Record.{Record}

-- A derived section has a record for each entity of its derivation, and the record at an index is that of the entity with this
-- index: `records_exact` in Records.antt
abbrev pub RecordsExact : Type 0
RecordsExact =
    (s : List ℕ) (d : Derivation) → Good s d
    → (length (directory_of s) ≡ (gives d).entities)
    × ((index : ℕ) (e : EntityWith index d.items) → (other : Record) → get_or (directory_of s) index other ≡ record_by e)

-- The reading with a directory meets its contract, and no other result does: `directory_exact` in Exact.antt
abbrev pub DirectoryExact : Type 0
DirectoryExact =
    (s : List ℕ) → Bytes s → (table : List ℕ) (list : List Record) (r : Listed)
    → ExactDirectory s table list r ↔ (r ≡ directory s table list)

-- Exactly one outcome of the look-up has its condition met, and the look-up tells it: `holder_exact` in Holding.antt
abbrev pub HolderExact : Type 0
HolderExact = (s : List ℕ) → Bytes s → (position : ℕ) (h : ByteHolder) → ExactHolder s position h ↔ (h ≡ entity_at s position)

-- The entity at a position is the one whose record contains the position: `holder_record` in Holding.antt
abbrev pub HolderRecord : Type 0
HolderRecord =
    (s : List ℕ) → Bytes s → (position index : ℕ) (other : Record)
    → (entity_at s position ≡ holder index) ↔ ((index < length (directory_of s)) × (contains (get_or (directory_of s) index other) position ≡ true))

-- At most one record contains a position: `one_record` in Holding.antt
abbrev pub OneRecord : Type 0
OneRecord =
    (s : List ℕ) → Bytes s → (position i j : ℕ) (other : Record) → i < length (directory_of s) → j < length (directory_of s)
    → contains (get_or (directory_of s) i other) position ≡ true → contains (get_or (directory_of s) j other) position ≡ true → i ≡ j
