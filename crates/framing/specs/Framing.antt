-- The framing of a section, with the refusals 2 to 4 (docs/FORMAT.md, Sections and Refusals).
use Rattle.std.specs.Prelude.{ℕ, zero, suc, ◌+◌, Bool, true, cond, ◌&&◌, List, [], ◌∷◌, leb, eqb, length, drop}
use Rattle.layout.specs.Reading.{Outcome, ok, ◌>>=◌, need, number_at}

-- Only zeros
abbrev pub all_zero : List ℕ → Bool
all_zero [] = true
all_zero (b ∷ s) = eqb b 0 && all_zero s

-- Where a payload begins, and where it ends
pub record Part : Type 0 where
  pub begin : ℕ
  pub end : ℕ

-- The parts from a boundary on, and where the padding begins; or a refusal
abbrev pub Parts : Type 0
Parts = Outcome ℕ (List Part)

-- A boundary. Only zeros: the padding. Else 2, if fewer than four bytes remain; 3, if the length is 0; 4, if it exceeds the
-- bytes after it; else an entry, and `rest` from its end on
unfoldable pub boundary : List ℕ → (rest : ℕ → Parts) → ℕ → Parts
boundary s rest at =
    cond (all_zero (drop at s)) (ok [] at)
    (need (leb (at + 4) (length s)) 2 at
    (need (leb 1 (number_at s at)) 3 at
    (need (leb (at + 4 + number_at s at) (length s)) 4 at
    (rest (at + 4 + number_at s at) >>= λ parts end.
    ok (record { begin = at + 4; end = at + 4 + number_at s at } ∷ parts) end))))

-- At most n boundaries, one after the other
unfoldable pub boundaries : ℕ → List ℕ → ℕ → Parts
boundaries zero s at = ok [] at
boundaries (suc k) s at = boundary s (boundaries k s) at

-- The framing from a boundary on. There is at most one boundary more than there are bytes
unfoldable pub framing_from : List ℕ → (boundary : ℕ) → Parts
framing_from s at = boundaries (suc (length s)) s at

-- The framing from the section's start on
unfoldable pub framing : List ℕ → Parts
framing s = framing_from s 0
