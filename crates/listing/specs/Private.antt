-- Definitions for the contracts of private functions; no public contract cites them.
use Rattle.std.specs.Prelude.{ℕ, ◌+◌, List, ◌++◌, length, take, drop}

-- The contents of `out` once bytes are stored from a place on: as many of them as fit there, then what was there before
abbrev pub stored : (at : ℕ) → (bytes out : List ℕ) → List ℕ
stored at bytes out = take (length out) (take at out ++ bytes) ++ drop (at + length bytes) out

-- No line is longer
abbrev pub most_line : ℕ
most_line = 49
