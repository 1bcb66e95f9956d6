-- Derivations of a section (docs/FORMAT.md, Derivations). Nothing here refers to the reader.
use Rattle.std.specs.Prelude.{ℕ, ◌+◌, ◌<◌, List, [], ◌∷◌, ◌++◌, length, replicate}
use Rattle.layout.specs.Layout.{Leaf, plain, string, Value, leaves, Proper}
use Rattle.layout.specs.Written.{four, width, bytes, rows_from}
use Rattle.layout.specs.Entities.{Entity}
use Rattle.layout.specs.Answers.{Given}
use Rattle.framing.specs.Entries.{sentinel_bytes}

-- An item: the sentinel, or an entity
pub data Item : Type 0 where
  sentinel : Item
  entity : Value Entity → Item

-- A derivation: a list of items, and a number of padding bytes
pub record Derivation : Type 0 where
  pub items : List Item
  pub padding : ℕ

-- An item's payload
abbrev pub payload : Item → List ℕ
payload sentinel = sentinel_bytes
payload (entity v) = bytes Entity v

-- An entry: a 4-byte length, and that many payload bytes
abbrev pub entry : Item → List ℕ
entry i = four (length (payload i)) ++ payload i

-- Entries, one after the other
abbrev pub entries : List Item → List ℕ
entries [] = []
entries (i ∷ is) = entry i ++ entries is

-- What a derivation derives: the entries of its items, then the padding
abbrev pub derive : Derivation → List ℕ
derive d = entries d.items ++ replicate d.padding 0

-- An entity is proper if its value is, and its length fits 4 bytes
abbrev pub ProperItem : Item → Type 0
ProperItem sentinel = Unit {0}
ProperItem (entity v) = Proper Entity v × (length (bytes Entity v) < 4294967296)

-- Each item is proper
abbrev pub ProperItems : List Item → Type 0
ProperItems [] = Unit {0}
ProperItems (i ∷ is) = ProperItem i × ProperItems is

-- An entity with its place: where its payload begins, and its leaves
pub record Placed : Type 0 where
  pub at : ℕ
  pub content : List Leaf

-- The entities among items whose first entry begins at a place. A payload begins after the 4 bytes of its length; a sentinel is
-- not an entity
abbrev pub placed : ℕ → List Item → List Placed
placed at [] = []
placed at (sentinel ∷ is) = placed (at + 4 + length sentinel_bytes) is
placed at (entity v ∷ is) = record { at = at + 4; content = leaves Entity v } ∷ placed (at + 4 + length (bytes Entity v)) is

-- The total number of leaves of entities
abbrev pub total_leaves : List Placed → ℕ
total_leaves [] = 0
total_leaves (e ∷ es) = length e.content + total_leaves es

-- The rows of the leaves of entities
abbrev pub rows_of : List Placed → List ℕ
rows_of [] = []
rows_of (e ∷ es) = rows_from e.at e.content ++ rows_of es

-- What entities give: their number, the number of their leaves, and their rows
abbrev pub given_of : List Placed → Given
given_of es = record { entities = length es; leaf_count = total_leaves es; rows = rows_of es }

-- The entities of a derivation, with places from the section's start
abbrev pub entities_of : Derivation → List Placed
entities_of d = placed 0 d.items

-- The number of sentinels among items
abbrev pub sentinels : List Item → ℕ
sentinels [] = 0
sentinels (sentinel ∷ is) = 1 + sentinels is
sentinels (entity v ∷ is) = sentinels is

-- The number of bytes that a leaf takes
abbrev pub leaf_size : Leaf → ℕ
leaf_size (plain srt n) = width srt
leaf_size (string t) = 4 + length t

-- The number of bytes that leaves take
abbrev pub leaf_sizes : List Leaf → ℕ
leaf_sizes [] = 0
leaf_sizes (x ∷ ls) = leaf_size x + leaf_sizes ls

-- The number of bytes that the leaves of entities take
abbrev pub entity_sizes : List Placed → ℕ
entity_sizes [] = 0
entity_sizes (e ∷ es) = leaf_sizes e.content + entity_sizes es
