-- How an answer is told in four numbers: the refusal's number and place, or 0 and 0; then what is answered, or 0 and 0.
use Rattle.std.specs.Prelude.{ℕ, ◌+◌, ◌-◌, cond, List, [], ◌∷◌, eqb, get_or}
use Rattle.text.specs.Kept.{TextAnswer, text_kept, no_text}
use Rattle.layout.specs.Answers.{Answer, Result}
use Rattle.layout.specs.Reading.{Outcome, ok, refuse}
use Rattle.table.specs.Answers.{Total, counted, uncounted}
use Rattle.directory.specs.Directory.{Listed}
use Rattle.directory.specs.Holder.{ByteHolder, holder, unheld, unread}
use Rattle.directory.specs.declared.Record.{Record}
use Rattle.parts.specs.Names.{SqlStart, starts_at, not_utf8}
use Rattle.sql_text.specs.SqlText.{SqlAnswer}

-- A refusal
abbrev pub refusal_numbers : (number place : ℕ) → List ℕ
refusal_numbers number place = number ∷ place ∷ 0 ∷ 0 ∷ []

-- A reading: the number and the place of a refusal; its entities and its rows
abbrev pub answer_numbers : Answer → List ℕ
answer_numbers a = a.number ∷ a.place ∷ a.entities ∷ a.rows ∷ []

-- The answer that four numbers tell: the number 0 is an acceptance
abbrev pub answer_in : List ℕ → Answer
answer_in ns = record {
  accepts = eqb (get_or ns 0 0) 0;
  number = get_or ns 0 0;
  place = get_or ns 1 0;
  entities = get_or ns 2 0;
  rows = get_or ns 3 0;
}

-- And with the table, the result of a reading
abbrev pub result_in : (numbers table : List ℕ) → Result
result_in ns table = record { answer = answer_in ns; table = table }

-- And with the table and the list, the result of a reading with a directory
abbrev pub listed_in : (numbers table : List ℕ) → List Record → Listed
listed_in ns table list = record { result = result_in ns table; list = list }

-- What holds a byte: 1 and the index of the entity; or 0 and 0
abbrev pub holder_numbers : ByteHolder → List ℕ
holder_numbers (holder index) = 0 ∷ 0 ∷ 1 ∷ index ∷ []
holder_numbers unheld = 0 ∷ 0 ∷ 0 ∷ 0 ∷ []
holder_numbers (unread number place) = refusal_numbers number place

-- What four numbers tell of it
abbrev pub holder_told : List ℕ → ByteHolder
holder_told ns =
    cond (eqb (get_or ns 0 0) 0) (cond (eqb (get_or ns 2 0) 1) (holder (get_or ns 3 0)) unheld) (unread (get_or ns 0 0) (get_or ns 1 0))

-- A part of the bytes, from its start up to its end: its start and its length
abbrev pub part_numbers : Outcome ℕ ℕ → List ℕ
part_numbers (ok start end) = 0 ∷ 0 ∷ start ∷ (end - start) ∷ []
part_numbers (refuse number place) = refusal_numbers number place

-- The part that four numbers tell, from its start up to its end, or the refusal
abbrev pub part_told : List ℕ → Outcome ℕ ℕ
part_told ns =
    cond (eqb (get_or ns 0 0) 0) (ok (get_or ns 2 0) (get_or ns 2 0 + get_or ns 3 0)) (refuse (get_or ns 0 0) (get_or ns 1 0))

-- An SQL text: its start, in the bytes or in the buffer, and its length
abbrev pub place_numbers : SqlAnswer → List ℕ
place_numbers a = a.number ∷ a.place ∷ a.begin ∷ a.len ∷ []

-- 1 if it stands in the buffer, else 0
abbrev pub in_buffer : SqlAnswer → ℕ
in_buffer a = cond a.buffered 1 0

-- A written length: the third number
abbrev pub length_numbers : Total → List ℕ
length_numbers (counted n) = 0 ∷ 0 ∷ n ∷ 0 ∷ []
length_numbers (uncounted number place) = refusal_numbers number place

-- A count n, or the refusal that four numbers tell
abbrev pub total_told : (n : ℕ) (numbers : List ℕ) → Total
total_told n ns = cond (eqb (get_or ns 0 0) 0) (counted n) (uncounted (get_or ns 0 0) (get_or ns 1 0))

-- The length that four numbers tell, or the refusal
abbrev pub length_told : List ℕ → Total
length_told ns = total_told (get_or ns 2 0) ns

-- A path report, whose pairs are returned beside the numbers
abbrev pub report_numbers : Total → List ℕ
report_numbers (counted pairs) = 0 ∷ 0 ∷ 0 ∷ 0 ∷ []
report_numbers (uncounted number place) = refusal_numbers number place

-- The pairs, 0 after a refusal
abbrev pub pairs_in : Total → ℕ
pairs_in (counted pairs) = pairs
pairs_in (uncounted number place) = 0

-- Where an SQL name starts: 1 and the start; or 0 and 0, if the name is not UTF-8
abbrev pub start_numbers : SqlStart → List ℕ
start_numbers (starts_at k) = 0 ∷ 0 ∷ 1 ∷ k ∷ []
start_numbers not_utf8 = 0 ∷ 0 ∷ 0 ∷ 0 ∷ []

-- What four numbers tell of it
abbrev pub start_told : List ℕ → SqlStart
start_told ns = cond (eqb (get_or ns 2 0) 1) (starts_at (get_or ns 3 0)) not_utf8

-- What the text check tells: 1 and how many bytes are kept as a name; or 0 and 0
abbrev pub text_numbers : TextAnswer → List ℕ
text_numbers (text_kept k) = 0 ∷ 0 ∷ 1 ∷ k ∷ []
text_numbers no_text = 0 ∷ 0 ∷ 0 ∷ 0 ∷ []

-- What four numbers tell of it
abbrev pub text_told : List ℕ → TextAnswer
text_told ns = cond (eqb (get_or ns 2 0) 1) (text_kept (get_or ns 3 0)) no_text
