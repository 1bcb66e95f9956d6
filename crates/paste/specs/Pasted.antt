-- Bytes stored in a list.
use Rattle.std.specs.Prelude.{ℕ, ◌+◌, cond, List, ◌++◌, leb, length, take, drop}

-- A list with bytes stored from a place on, if they fit there; else the list unchanged
unfoldable pub pasted : (out : List ℕ) → (at : ℕ) → (bytes : List ℕ) → List ℕ
pasted out at bytes = cond (leb (at + length bytes) (length out)) (take at out ++ bytes ++ drop (at + length bytes) out) out
