-- The reading of a section, with the refusals 1 to 13 in their order (docs/FORMAT.md, Refusals).
use Rattle.std.specs.Prelude.{ℕ, cond, List, [], ◌∷◌, ◌++◌, leb, length, take, drop}
use Rattle.layout.specs.Layout.{Leaf}
use Rattle.layout.specs.Entities.{Entity}
use Rattle.layout.specs.Reading.{Outcome, ok, ◌>>=◌, need, read}
use Rattle.layout.specs.Answers.{limit, Result, Given}
use Rattle.layout.specs.ReadAlone.{through_table}
use Rattle.raw_bytes.specs.Bytes.{same}
use Rattle.framing.specs.Framing.{Part, framing}
use Rattle.framing.specs.Entries.{sentinel_bytes}
use Rattle.section.specs.Derivation.{Placed, given_of}

-- The leaves of an entity that ends with its payload; else 12, at the first byte that remains
abbrev pub ended : Part → List Leaf → (end : ℕ) → Outcome ℕ (List Placed)
ended p ls end = need (leb p.end end) 12 end (ok (record { at = p.begin; content = ls } ∷ []) end)

-- One entity, with 5 to 11, then 12
unfoldable pub read_entity : List ℕ → Part → Outcome ℕ (List Placed)
read_entity s p = read Entity (take p.end s) p.begin >>= λ ls end. ended p ls end

-- A payload: the sentinel yields nothing, any other must be one entity
unfoldable pub read_payload : List ℕ → Part → Outcome ℕ (List Placed)
read_payload s p = cond (same (drop p.begin (take p.end s)) sentinel_bytes) (ok [] p.end) (read_entity s p)

-- Payload after payload. The padding begins at `end`
unfoldable pub read_payloads : List ℕ → (end : ℕ) → List Part → Outcome ℕ (List Placed)
read_payloads s end [] = ok [] end
read_payloads s end (p ∷ ps) =
    read_payload s p >>= λ xs at.
    read_payloads s end ps >>= λ ys at₁. ok (xs ++ ys) at₁

-- The entities of a section: 1; then the whole framing; then the payloads
unfoldable pub read_section : List ℕ → Outcome ℕ (List Placed)
read_section s = need (leb (length s) limit) 1 0 (framing s >>= λ parts end. read_payloads s end parts)

-- What they give
abbrev pub section_given : List ℕ → Outcome ℕ Given
section_given s = read_section s >>= λ es end. ok (given_of es) end

-- The reading of a section through a lent table, with 13
unfoldable pub reading : List ℕ → List ℕ → Result
reading s table = through_table (section_given s) table
