-- Definitions for the contracts of private functions; no public contract cites them.
use Rattle.std.specs.Prelude.{ℕ, ◌+◌, ◌≤◌, cond, List, ◌≡◌, eqb, length}
use Rattle.layout.specs.Reading.{Outcome, ok, refuse, need, utf8}
use Rattle.table.specs.declared.Row.{Row}
use Rattle.place.specs.Place.{between}
use Rattle.parts.specs.Parts.{row_text}

-- What was found is the row's text, except that its bytes may still not be UTF-8
abbrev pub Untested : List ℕ → Row → Outcome ℕ ℕ → Type 0
Untested s row (ok start end) =
    (start ≤ end) × (end ≤ length s) × (row_text s row ≡ need (utf8 (between s start end)) 15 0 (ok start end))
Untested s row (refuse n p) = row_text s row ≡ refuse n p

-- Where the last pair of colons ended, from where it ended before a part of a name, how many bytes there were before, and where
-- the last one of the part ended, 0 if it has none
abbrev pub end_after : (before seen end : ℕ) → ℕ
end_after before seen end = cond (eqb end 0) before (seen + end)
