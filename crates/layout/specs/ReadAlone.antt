-- The reading of one payload, metadata record or mapping alone, with the refusals in their order (docs/FORMAT.md, Refusals).
use Rattle.std.specs.Prelude.{ℕ, cond, List, leb, length}
use Rattle.layout.specs.Layout.{Layout}
use Rattle.layout.specs.Reading.{Outcome, ok, refuse, ◌>>=◌, need, read}
use Rattle.layout.specs.Answers.{limit, Result, Given, whole_rows, acceptance, refusal}
use Rattle.layout.specs.Alone.{given}

-- The result with a lent table: a refusal of 1 to 12; 13, if the table has too few whole rows; or an acceptance
abbrev pub through_table : Outcome ℕ Given → List ℕ → Result
through_table (refuse n p) table = refusal n p table
through_table (ok g end) table = cond (leb g.leaf_count (whole_rows table)) (acceptance g table) (refusal 13 0 table)

-- 1; then the layout, with 5 to 11; then 12 at the first byte that remains
unfoldable pub read_alone : Layout → (entities : ℕ) → List ℕ → Outcome ℕ Given
read_alone L entities s =
    need (leb (length s) limit) 1 0
    (read L s 0 >>= λ ls end.
    need (leb (length s) end) 12 end (ok (given entities ls) end))

-- The reading of one value of a layout alone
unfoldable pub reading_alone : Layout → (entities : ℕ) → List ℕ → List ℕ → Result
reading_alone L entities s table = through_table (read_alone L entities s) table
