-- Definitions for the contracts of private functions; no public contract cites them.
use Rattle.std.specs.Prelude.{ℕ, zero, suc, ◌+◌, ◌-◌, ◌%◌, Bool, cond, List, [], ◌∷◌, ◌++◌, eqb, leb, length, take, drop}
use Rattle.layout.specs.Layout.{Kind}
use Rattle.layout.specs.Written.{four, sort_number, sort_at, offset_at, value_at}
use Rattle.layout.specs.Answers.{whole_rows}
use Rattle.paste.specs.Pasted.{pasted}

-- A text from lent bytes, after its length; nothing if it leaves them
unfoldable pub text_bytes : (text : List ℕ) → (start size : ℕ) → List ℕ
text_bytes text start size = cond (leb (start + size) (length text)) (four size ++ take size (drop start text)) []

-- The bytes of a row, by its sort: up to 3, a kind, a tag or a flag; up to 5, a number or a count; else a text. There is no sort
-- 0 and none above 6 (docs/FORMAT.md, Rows), and a writing has refused such a row with 14 before
unfoldable pub row_bytes : (rows text : List ℕ) → (row : ℕ) → List ℕ
row_bytes rows text i =
    cond (leb (sort_at rows i) 3) (value_at rows i % 256 ∷ [])
    (cond (leb (sort_at rows i) 5) (four (value_at rows i))
    (text_bytes text (offset_at rows i) (value_at rows i)))

-- A destination, and the place in it where storing goes on
pub record Spot : Type 0 where
  pub at : ℕ
  pub dest : List ℕ

abbrev pub spot : (at : ℕ) → List ℕ → Spot
spot at dest = record { at = at; dest = dest }

-- Bytes, stored if they fit
unfoldable pub stored_bytes : List ℕ → Spot → Spot
stored_bytes b p = cond (leb (p.at + length b) (length p.dest)) (spot (p.at + length b) (pasted p.dest p.at b)) p

-- A row
abbrev pub stored_row : (rows text : List ℕ) → (row : ℕ) → Spot → Spot
stored_row rows text i p = stored_bytes (row_bytes rows text i) p

-- n rows from row i on
unfoldable pub stored_rows : (rows text : List ℕ) → (n row : ℕ) → Spot → Spot
stored_rows rows text zero i p = p
stored_rows rows text (suc n) i p = stored_rows rows text n (i + 1) (stored_row rows text i p)

-- A row has the kind of an entity
abbrev pub is_kind : (rows : List ℕ) → (row : ℕ) → Bool
is_kind rows i = eqb (sort_at rows i) (sort_number Kind)

-- The first row with the kind of an entity among n from row i on, or the row after them
unfoldable pub next_kind : (rows : List ℕ) → (n row : ℕ) → ℕ
next_kind rows zero i = i
next_kind rows (suc n) i = cond (is_kind rows i) i (next_kind rows n (i + 1))

-- Where the entity ends that begins with row i
abbrev pub entity_end : (rows : List ℕ) → (row : ℕ) → ℕ
entity_end rows i = next_kind rows (whole_rows rows - (i + 1)) (i + 1)

-- The payload of an entry: the rows of the entity that begins with row i
abbrev pub stored_payload : (rows text : List ℕ) → (row : ℕ) → Spot → Spot
stored_payload rows text i p = stored_rows rows text (entity_end rows i - i) i p

-- The length of a payload is stored before it: the entry begins at a place, and ends at another
abbrev pub length_stored : (begin end : ℕ) → List ℕ → List ℕ
length_stored begin end dest = pasted dest begin (four ((end - begin - 4) % 4294967296))
