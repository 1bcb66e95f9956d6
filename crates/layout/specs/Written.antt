-- What a value derives: the bytes of its leaves, and their rows (docs/FORMAT.md, Derivations and Rows). Nothing here refers to
-- the reader.
use Rattle.std.specs.Prelude.{ℕ, ◌+◌, ◌*◌, ◌/◌, ◌%◌, List, [], ◌∷◌, ◌++◌, ◌≡◌, length, get_or, drop}
use Rattle.layout.specs.Layout.{Sort, Kind, Tag, Flag, Number, Count, Leaf, plain, string, Layout, Value, leaves}

-- Four bytes, little-endian
abbrev pub four : ℕ → List ℕ
four n = n % 256 ∷ n / 256 % 256 ∷ n / 65536 % 256 ∷ n / 16777216 % 256 ∷ []

-- The bytes of a leaf that holds a number: 1 for a kind, tag or flag, 4 for a number or count
abbrev pub plain_bytes : Sort → ℕ → List ℕ
plain_bytes Kind n = n ∷ []
plain_bytes Tag n = n ∷ []
plain_bytes Flag n = n ∷ []
plain_bytes Number n = four n
plain_bytes Count n = four n

-- The number of these bytes
abbrev pub width : Sort → ℕ
width Kind = 1
width Tag = 1
width Flag = 1
width Number = 4
width Count = 4

-- The bytes of a leaf; a text has its length before it
abbrev pub leaf_bytes : Leaf → List ℕ
leaf_bytes (plain srt n) = plain_bytes srt n
leaf_bytes (string t) = four (length t) ++ t

-- The bytes of leaves, one after the other
abbrev pub bytes_of : List Leaf → List ℕ
bytes_of [] = []
bytes_of (x ∷ ls) = leaf_bytes x ++ bytes_of ls

-- What a value of a layout derives
abbrev pub bytes : (L : Layout) → Value L → List ℕ
bytes L v = bytes_of (leaves L v)

-- The bytes b are in s from `at` up to `end`
abbrev pub Stand : List ℕ → (at : ℕ) → List ℕ → (end : ℕ) → Type 0
Stand s at b end = (drop at s ≡ b ++ drop end s) × (end ≡ at + length b)

-- How many numbers a row has
abbrev pub row_width : ℕ
row_width = 3

-- The number of a sort in a row
abbrev pub sort_number : Sort → ℕ
sort_number Kind = 1
sort_number Tag = 2
sort_number Flag = 3
sort_number Number = 4
sort_number Count = 5

-- The sort of a text
abbrev pub text_sort : ℕ
text_sort = 6

-- The row of a leaf that begins at a place: sort, offset, value. The offset of a text is that of its first byte, after its
-- 4-byte length
abbrev pub row_at : ℕ → Leaf → List ℕ
row_at at (plain srt n) = sort_number srt ∷ at ∷ n ∷ []
row_at at (string t) = text_sort ∷ (at + 4) ∷ length t ∷ []

-- The rows of leaves, the first of which begins at a place
abbrev pub rows_from : ℕ → List Leaf → List ℕ
rows_from at [] = []
rows_from at (x ∷ ls) = row_at at x ++ rows_from (at + length (leaf_bytes x)) ls

-- The sort of a row of a table
abbrev pub sort_at : List ℕ → (row : ℕ) → ℕ
sort_at table row = get_or table (row_width * row) 0

-- Its offset
abbrev pub offset_at : List ℕ → (row : ℕ) → ℕ
offset_at table row = get_or table (row_width * row + 1) 0

-- Its value
abbrev pub value_at : List ℕ → (row : ℕ) → ℕ
value_at table row = get_or table (row_width * row + 2) 0
