-- The rows of a table, and clearing it.
use Rattle.std.specs.Prelude.{ℕ, ◌-◌, cond, List, ◌++◌, ltb, length, take, replicate}
use Rattle.layout.specs.Written.{sort_at, offset_at, value_at}
use Rattle.layout.specs.Answers.{whole_rows}
use Rattle.table.specs.declared.Row.{Row}

-- The row at an index; three times 0 if the table has no such row
unfoldable pub row_of : List ℕ → (index : ℕ) → Row
row_of table i =
    cond (ltb i (whole_rows table)) (record { sort = sort_at table i; offset = offset_at table i; value = value_at table i })
    (record { sort = 0; offset = 0; value = 0 })

-- A table with 0 from an index on
unfoldable pub cleared : List ℕ → (from : ℕ) → List ℕ
cleared table from = take from table ++ replicate (length table - from) 0
