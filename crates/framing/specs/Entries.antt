-- Entries with any payloads, and the sentinel's payload, which yields nothing (docs/FORMAT.md, Sections).
use Rattle.std.specs.Prelude.{ℕ, ◌≤◌, ◌<◌, List, [], ◌∷◌, ◌++◌, length}
use Rattle.layout.specs.Written.{four}

-- Payloads as entries, one after the other
abbrev pub framed : List (List ℕ) → List ℕ
framed [] = []
framed (x ∷ xs) = four (length x) ++ x ++ framed xs

-- The length of each payload is at least 1 and fits 4 bytes
abbrev pub Framable : List (List ℕ) → Type 0
Framable [] = Unit {0}
Framable (x ∷ xs) = (1 ≤ length x) × (length x < 4294967296) × Framable xs

-- The sentinel's payload
abbrev pub sentinel_bytes : List ℕ
sentinel_bytes = 0x00 ∷ 0x04 ∷ 0x00 ∷ 0x00 ∷ 0x00 ∷ 0x70 ∷ 0x67 ∷ 0x72 ∷ 0x78 ∷ []
