-- Parts of the bytes given.
use Rattle.std.specs.Prelude.{ℕ, ◌+◌, ◌-◌, List, [], take, drop, Result, Ok, Err}
use Rattle.std.specs.Borrow.{Bor}
use Rattle.layout.specs.Reading.{Outcome, ok, refuse}
use Rattle.table.specs.declared.Refusal.{Refusal}
use Rattle.place.specs.declared.Part.{Part}

-- The part of some bytes from a start up to an end
abbrev pub between : List ℕ → (start end : ℕ) → List ℕ
between s start end = take (end - start) (drop start s)

-- The part that an outcome gives, by its start and its end: empty after a refusal
abbrev pub part_of : List ℕ → Outcome ℕ ℕ → List ℕ
part_of s (ok start end) = between s start end
part_of s (refuse n p) = []

module _ {A : Type 0} where
  -- The number of a refusal, 0 on acceptance
  abbrev pub number_in : Outcome ℕ A → ℕ
  number_in (ok a end) = 0
  number_in (refuse n p) = n

  -- The place of a refusal, 0 on acceptance
  abbrev pub place_in : Outcome ℕ A → ℕ
  place_in (ok a end) = 0
  place_in (refuse n p) = p

-- The meaning of each case of the code's answer: a start and an end; or a refusal's number and place
abbrev pub found_part : Result Part Refusal → Outcome ℕ ℕ
found_part (Ok part) = ok part.start (part.start + part.len)
found_part (Err refusal) = refuse refusal.number refusal.place

-- The bytes that the code answers: none after a refusal
abbrev pub bytes_told : Result (Bor (List ℕ)) Refusal → List ℕ
bytes_told (Ok bytes) = bytes.now
bytes_told (Err refusal) = []

module _ {A : Type 0} where
  -- The number of the refusal that the code answers, 0 on acceptance
  abbrev pub number_told : Result A Refusal → ℕ
  number_told (Ok a) = 0
  number_told (Err refusal) = refusal.number

  -- Its place, 0 on acceptance
  abbrev pub place_told : Result A Refusal → ℕ
  place_told (Ok a) = 0
  place_told (Err refusal) = refusal.place

module _ {A B C : Type 0} where
  -- An answer accepts where an outcome does, and refuses where it refuses
  abbrev pub told_as : Result A Refusal → Outcome B C → Type 0
  told_as (Ok a) (ok b c) = Unit {0}
  told_as (Ok a) (refuse n p) = ⊥
  told_as (Err refusal) (ok b c) = ⊥
  told_as (Err refusal) (refuse n p) = Unit {0}
