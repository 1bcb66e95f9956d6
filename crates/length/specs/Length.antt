-- Written lengths, and refusal 16 (docs/FORMAT.md, Writing and Refusals).
use Rattle.std.specs.Prelude.{ℕ, ◌+◌, cond, List, [], ◌∷◌, leb, Result, Ok, Err, Some, None}
use Rattle.std.specs.Prelude as std
use Rattle.std.proofs.Math.Option.{Option, none, some}
use Rattle.layout.specs.Answers.{limit}
use Rattle.table.specs.declared.Refusal.{Refusal}
use Rattle.table.specs.Answers.{Total, counted, uncounted}

-- The meaning of each case: the count, or the number and place
abbrev pub length_of : Result ℕ Refusal → Total
length_of (Ok count) = counted count
length_of (Err refusal) = uncounted refusal.number refusal.place

-- 16: the written length is above the limit
abbrev pub too_long : Total
too_long = uncounted 16 0

-- A written length, or the refusal 16
unfoldable pub within_limit : ℕ → Total
within_limit n = cond (leb n limit) (counted n) too_long

-- A 4-byte length, then that many bytes
abbrev pub bytes_length : ℕ → ℕ
bytes_length n = 4 + n

-- The code's option
abbrev pub len_of : std.Option ℕ → Option ℕ
len_of None = none
len_of (Some n) = some n

-- A flag, then the optional part if it is present
abbrev pub option_length : Option ℕ → ℕ
option_length none = 1
option_length (some n) = 1 + n

-- The sum of lengths
abbrev pub sum : List ℕ → ℕ
sum [] = 0
sum (n ∷ ns) = n + sum ns

-- A 4-byte count, then the items, from their lengths
unfoldable pub list_length : List ℕ → ℕ
list_length items = 4 + sum items
