-- Definitions for the contracts of private functions; no public contract cites them.
use Rattle.std.specs.Prelude.{ℕ, ◌+◌, List, ltb}
use Rattle.layout.specs.Written.{value_at}
use Rattle.layout.specs.Reading.{Outcome, ok, refuse, need}
use Rattle.writing.specs.Rows.{is_row}
use Rattle.writing.specs.State.{WriteState, stopped_writer, past}

-- A number from a row with a sort's number, below a bound
abbrev pub number_from : (rows : List ℕ) → (sort bound row : ℕ) → Outcome ℕ ℕ
number_from rows sort bound i = need (is_row rows i sort) 14 0 (need (ltb (value_at rows i) bound) 14 0 (ok (value_at rows i) (i + 1)))

-- A number that is taken, of `size` bytes
abbrev pub take_number : (size : ℕ) → Outcome ℕ ℕ → WriteState → WriteState
take_number size (ok n next) w = past n size w
take_number size (refuse n p) w = stopped_writer w
