-- Definitions for the contracts of private functions; no public contract cites them.
use Rattle.std.specs.Prelude.{ℕ, ◌+◌, cond, eqb, length, Result, Ok, Err}
use Rattle.layout.specs.Reading.{Outcome, ok, refuse}
use Rattle.table.specs.declared.Refusal.{Refusal}
use Rattle.numeric.specs.Numeric.{numeric_text, numeric_size, option_of}
use Rattle.sql_text.specs.declared.Found.{Found}
use Rattle.sql_text.specs.declared.Found.TheVariants.{Stored, Numeric}
use Rattle.sql_text.specs.SqlText.{SqlText, in_section, in_buffer}

-- What the code found, as an outcome
abbrev pub text_found : Found → Outcome ℕ SqlText
text_found (Stored part) = ok (in_section part.start) (part.start + part.len)
text_found (Numeric p q) = ok (in_buffer (numeric_text (option_of p) (option_of q))) (length (numeric_text (option_of p) (option_of q)))

-- The same, or the refusal instead
abbrev pub outcome_of : Result Found Refusal → Outcome ℕ SqlText
outcome_of (Ok found) = text_found found
outcome_of (Err refusal) = refuse refusal.number refusal.place

-- What was found, unless the buffer has another size
abbrev pub sized_for : ℕ → Found → Result Found Refusal
sized_for size found = cond (eqb size numeric_size) (Ok found) (Err (record { number = 17; place = 0 }))
