-- The rows of a table.
use Prim.Native.Nat.{ℕ, ◌≤◌, ◌<◌}
use mathlib.Core.List.{List}
use mathlib.Core.Path.{◌≡◌, ap, ◌∙◌}
use borrow.Author.Tests.{lt-ltb, le-ltb}
use Rattle.layout.specs.Written.{sort_at, offset_at, value_at}
use Rattle.layout.specs.Answers.{whole_rows}
use Rattle.table.specs.declared.Row.{Row}
use Rattle.table.specs.Table.{row_of}

module _ (table : List ℕ) (i : ℕ) where
  pub row_there : i < whole_rows table → row_of table i ≡ record { sort = sort_at table i; offset = offset_at table i; value = value_at table i }
  unfolding row_of
  row_there h = rw (lt-ltb i (whole_rows table) h)

  pub row_none : whole_rows table ≤ i → row_of table i ≡ record { sort = 0; offset = 0; value = 0 }
  unfolding row_of
  row_none h = rw (le-ltb i (whole_rows table) h)

-- The numbers of a row that is there
module _ (table : List ℕ) (i : ℕ) (h : i < whole_rows table) {row : Row} (e : row ≡ row_of table i) where
  pub sort_there : row.sort ≡ sort_at table i
  sort_there = ap (λ (r : Row). r.sort) (e ∙ row_there table i h)

  pub offset_there : row.offset ≡ offset_at table i
  offset_there = ap (λ (r : Row). r.offset) (e ∙ row_there table i h)

  pub value_there : row.value ≡ value_at table i
  value_there = ap (λ (r : Row). r.value) (e ∙ row_there table i h)
