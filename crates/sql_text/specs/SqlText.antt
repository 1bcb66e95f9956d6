-- The SQL text of a mapping, with the refusals 1, 5 to 7, 9, 10 and 17 (docs/FORMAT.md, Texts, SQL names and SQL texts).
use Rattle.std.specs.Prelude.{ℕ, ◌+◌, ◌-◌, Bool, true, false, cond, List, [], ◌++◌, eqb, leb, length, get_or, take, drop, Result, Ok, Err}
use Rattle.std.proofs.Math.Option.{Option, none, some}
use Rattle.layout.specs.Layout.{Leaf, Layout, check}
use Rattle.layout.specs.Entities.{SqlMapping, value_in, as_or_numeric}
use Rattle.layout.specs.Reading.{Outcome, ok, refuse, ◌>>=◌, need, read}
use Rattle.layout.specs.Answers.{limit}
use Rattle.sql_text.specs.declared.SqlPlace.{SqlPlace}
use Rattle.sql_text.specs.declared.SqlPlace.TheVariants.{Section, Buffer}
use Rattle.table.specs.declared.Refusal.{Refusal}
use Rattle.place.specs.Place.{between}
use Rattle.numeric.specs.Numeric.{numeric_text, numeric_size}

-- A mapping that has an SQL text: As or Numeric, like the mapping in a declaration's result. Any other is refused with 10 at
-- its tag, after it was read
unfoldable pub TextMapping : Layout
TextMapping = check SqlMapping (λ values. as_or_numeric 1 (get_or values 0 0))

-- Where an SQL text is: in the section, from a start on; or, for a Numeric text, at the start of the lent buffer
pub data SqlText : Type 0 where
  in_section : (start : ℕ) → SqlText
  in_buffer : (text : List ℕ) → SqlText

-- The number after a flag, if the flag is 1
abbrev pub number_if : (flag number : ℕ) → Option ℕ
number_if flag number = cond (eqb flag 1) (some number) none

-- The text of a Numeric mapping, from its leaves: tag, has_precision, precision, has_scale and scale
abbrev pub text_of_leaves : List Leaf → List ℕ
text_of_leaves ls = numeric_text (number_if (value_in ls 1) (value_in ls 2)) (number_if (value_in ls 3) (value_in ls 4))

-- The SQL text of a mapping at a place, from its leaves, and where the text ends. That of As comes after the tag and the 4-byte
-- length, and ends where the mapping does; that of Numeric ends in the buffer
abbrev pub sql_text_of : (place : ℕ) → List Leaf → (end : ℕ) → Outcome ℕ SqlText
sql_text_of at ls end = cond (eqb (value_in ls 0) 1) (ok (in_section (at + 5)) end) (ok (in_buffer (text_of_leaves ls)) (length (text_of_leaves ls)))

-- The SQL text of the mapping at an offset, with a buffer of a given size: 1; then 5 to 7, 9 and 10; then 17
unfoldable pub sql_text : List ℕ → (offset size : ℕ) → Outcome ℕ SqlText
sql_text s offset size =
    need (leb (length s) limit) 1 0
    (read TextMapping s offset >>= λ ls end.
    need (eqb size numeric_size) 17 0 (sql_text_of offset ls end))

-- The part of the section or of the buffer; empty after a refusal
abbrev pub sql_part_of : (section buffer : List ℕ) → Outcome ℕ SqlText → List ℕ
sql_part_of section buffer (ok (in_section start) end) = between section start end
sql_part_of section buffer (ok (in_buffer text) end) = take end buffer
sql_part_of section buffer (refuse n p) = []

-- The buffer afterwards: only the bytes of a Numeric text change, at its start
abbrev pub filled : (buffer : List ℕ) → Outcome ℕ SqlText → List ℕ
filled buffer (ok (in_section start) end) = buffer
filled buffer (ok (in_buffer text) end) = text ++ drop end buffer
filled buffer (refuse n p) = buffer

-- The answer for an SQL text: the number and place of a refusal, else 0 and 0; whether the text is in the buffer; where it
-- begins, there or in the section, and its length, which are 0 and 0 after a refusal
pub record SqlAnswer : Type 0 where
  pub number : ℕ
  pub place : ℕ
  pub buffered : Bool
  pub begin : ℕ
  pub len : ℕ

-- A refusal as an answer
abbrev pub refused_sql : (number place : ℕ) → SqlAnswer
refused_sql number place = record { number = number; place = place; buffered = false; begin = 0; len = 0 }

-- The answer for what was read
abbrev pub sql_answer : Outcome ℕ SqlText → SqlAnswer
sql_answer (ok (in_section start) end) = record { number = 0; place = 0; buffered = false; begin = start; len = end - start }
sql_answer (ok (in_buffer text) end) = record { number = 0; place = 0; buffered = true; begin = 0; len = end }
sql_answer (refuse number place) = refused_sql number place

-- The meaning of each place of an SQL text
abbrev pub sql_placed : SqlPlace → SqlAnswer
sql_placed (Section part) = record { number = 0; place = 0; buffered = false; begin = part.start; len = part.len }
sql_placed (Buffer len) = record { number = 0; place = 0; buffered = true; begin = 0; len = len }

-- The meaning of each case of the code's answer
abbrev pub sql_answer_of : Result SqlPlace Refusal → SqlAnswer
sql_answer_of (Ok place) = sql_placed place
sql_answer_of (Err refusal) = refused_sql refusal.number refusal.place
