-- The version of the functions that programs link.
use Rattle.std.specs.Prelude.{ℕ}

-- It grows by one when a function, a row, a record or a refusal changes or is gone
abbrev pub version : ℕ
version = 2
