-- The SQL text of a Numeric mapping: `numeric_sql_string` of src/metadata/sql_translatable.rs.
use Rattle.std.specs.Prelude.{ℕ, List, ◌++◌, Option as Optional, Some, None}
use Rattle.std.proofs.Math.Option.{Option, none, some}
use Rattle.decimal.specs.Ascii.{ascii}
use Rattle.decimal.specs.Decimal.{decimal}

-- `NUMERIC(precision, scale)`. Without a scale only the precision is written, and without a precision neither
abbrev pub numeric_text : (precision scale : Option ℕ) → List ℕ
numeric_text none scale = ascii "NUMERIC"
numeric_text (some p) none = ascii "NUMERIC(" ++ decimal p ++ ascii ")"
numeric_text (some p) (some q) = ascii "NUMERIC(" ++ decimal p ++ ascii ", " ++ decimal q ++ ascii ")"

-- The size of a text's memory and of the lent buffer; no Numeric text is longer
abbrev pub numeric_size : ℕ
numeric_size = 31

-- The code's option of a number
abbrev pub option_of : Optional ℕ → Option ℕ
option_of None = none
option_of (Some n) = some n
