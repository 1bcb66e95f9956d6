-- What the answers of the code mean.
use Rattle.std.specs.Prelude.{ℕ, List, ◌++◌, Result, Ok, Err, codes}
use Rattle.std.specs.Fmt.{decimal}
use Rattle.table.specs.declared.RefusalKind.{RefusalKind}
use Rattle.table.specs.declared.RefusalKind.TheVariants.{InputTooLong, PartialLength, ZeroLength, EntryTooLong, Truncated, BadFlag, NotUtf8, UnknownKind, UnknownTag, NoSqlText, DeclaredError, TrailingBytes, TableTooSmall, BadRows, BadTextRow, OutputTooLong, BadBufferSize, NotElf64, BadSectionHeaders, NoSuchSection, ListTooSmall}
use Rattle.table.specs.declared.Refusal.{Refusal}
use Rattle.table.specs.declared.Counts.{Counts}
use Rattle.layout.specs.Answers as answers

-- The number of each refusal (docs/FORMAT.md, Refusals)
abbrev pub number_of : RefusalKind → ℕ
number_of InputTooLong = 1
number_of PartialLength = 2
number_of ZeroLength = 3
number_of EntryTooLong = 4
number_of Truncated = 5
number_of BadFlag = 6
number_of NotUtf8 = 7
number_of UnknownKind = 8
number_of UnknownTag = 9
number_of NoSqlText = 10
number_of DeclaredError = 11
number_of TrailingBytes = 12
number_of TableTooSmall = 13
number_of BadRows = 14
number_of BadTextRow = 15
number_of OutputTooLong = 16
number_of BadBufferSize = 17
number_of NotElf64 = 18
number_of BadSectionHeaders = 19
number_of NoSuchSection = 20
number_of ListTooSmall = 21

-- The code's answer: the two counts; or a number and a place, with both counts 0
abbrev pub answer_of : Result Counts Refusal → answers.Answer
answer_of (Ok counts) = answers.accepted counts.entities counts.rows
answer_of (Err refusal) = answers.refused refusal.number refusal.place

-- How a refusal prints
abbrev pub refusal_text : Refusal → List ℕ
refusal_text r = codes "refusal " ++ (decimal r.number ++ (codes " at " ++ decimal r.place))

-- The code's answer, with the table after it
abbrev pub result_of : Result Counts Refusal → List ℕ → answers.Result
result_of a table = record { answer = answer_of a; table = table }

-- A count, or a refusal's number and place
pub data Total : Type 0 where
  counted : (count : ℕ) → Total
  uncounted : (number place : ℕ) → Total
