-- The rows of an entity in a table: the first is its kind, and of the rows from there on exactly the entity's are within its entry.
use Prim.Native.Nat.{ℕ, zero, suc, ◌+◌, ◌-◌, ◌*◌, ◌≤◌, ◌<◌}
use native.Mathlib.Omega.{arith}
use mathlib.Core.Bool.{Bool, true, false, ◌&&◌}
use mathlib.Core.List.{List, [], ◌∷◌, ◌++◌, append_assoc}
use mathlib.Core.Path.{◌≡◌, refl, sym, ap, ◌∙◌}
use lib.Dec.{leb, ltb}
use lib.ListN.{length, get_or, drop, replicate, length-append, length-drop}
use lib.Seq.{get_or-drop, get_or-append-add}
use borrow.Author.Tests.{leb-true, leb-false, ltb-true, ltb-false, lt-ltb, le-ltb, le-leb, lt-leb}
use Rattle.layout.specs.Layout.{Kind, Leaf, plain, string, Value, leaves}
use Rattle.layout.specs.Written.{leaf_bytes, bytes_of, bytes, row_width, sort_number, rows_from, sort_at, offset_at, value_at}
use Rattle.layout.specs.Entities.{Entity, value_in}
use Rattle.layout.specs.Answers.{whole_rows}
use Rattle.layout.proofs.Rows.{rows_length}
use Rattle.table.specs.Table.{row_of}
use Rattle.table.proofs.Rows.{row_there, row_none}
use Rattle.framing.specs.Entries.{sentinel_bytes}
use Rattle.section.specs.Derivation.{Item, sentinel, entity, placed, rows_of}
use Rattle.section.proofs.Derivation.{zero_at}
use Rattle.directory.specs.Private.{row_within, EntryRows}
use Rattle.directory.proofs.Holding.{and_false}

-- An offset of 0 is past no start, and one past the end fails the other test
offset_outside : (start end offset : ℕ) → (0 < offset → end < offset) → (ltb start offset && leb offset end) ≡ false
offset_outside start end zero h = rw (le-ltb start 0 (omega arith))
offset_outside start end (suc n) h = rw (lt-leb (suc n) end (h (omega arith))) (and_false (ltb start (suc n)))

-- A row that the table does not have is not within
row_outside : (t : List ℕ) (start end row : ℕ) → whole_rows t ≤ row → row_within t start end row ≡ false
row_outside t start end row h = rw (row_none t row h) (offset_outside start end 0 (λ z. absurd (omega arith)))

-- Nor is one whose offset is 0 or past the end
not_within : (t : List ℕ) (start end row : ℕ) → (0 < offset_at t row → end < offset_at t row) → row_within t start end row ≡ false
not_within t start end row h = go (leb (whole_rows t) row) refl
  where
    go : (b : Bool) → leb (whole_rows t) row ≡ b → row_within t start end row ≡ false
    go true e = row_outside t start end row (leb-true _ _ e)
    go false e = rw (row_there t row (leb-false _ _ e)) (offset_outside start end (offset_at t row) h)

-- The offsets of leaves are from where the leaves begin up to where they end
offset_in : (at : ℕ) (ls : List Leaf) (r : List ℕ) (k : ℕ) → k < length ls
    → (at ≤ get_or (rows_from at ls ++ r) (row_width * k + 1) 0) × (get_or (rows_from at ls ++ r) (row_width * k + 1) 0 ≤ at + length (bytes_of ls))
offset_in at [] r k h = absurd (omega arith)
offset_in at (plain srt n ∷ ls) r zero h = (omega arith, omega arith)
offset_in at (string t ∷ ls) r zero h = (omega arith, omega (arith, length-append (leaf_bytes (string t)) (bytes_of ls)))
offset_in at (plain srt n ∷ ls) r (suc k) h =
    let e : row_width * suc k + 1 ≡ suc (suc (suc (row_width * k + 1))) = omega arith in
    let i = offset_in (at + length (leaf_bytes (plain srt n))) ls r k (omega arith) in
    rw e (omega (arith, i.0), omega (arith, i.1, length-append (leaf_bytes (plain srt n)) (bytes_of ls)))
offset_in at (string t ∷ ls) r (suc k) h =
    let e : row_width * suc k + 1 ≡ suc (suc (suc (row_width * k + 1))) = omega arith in
    let i = offset_in (at + length (leaf_bytes (string t))) ls r k (omega arith) in
    rw e (omega (arith, i.0), omega (arith, i.1, length-append (leaf_bytes (string t)) (bytes_of ls)))

-- The offsets behind those of leaves
offset_behind : (at : ℕ) (ls : List Leaf) (r : List ℕ) (k : ℕ) → length ls ≤ k → get_or (rows_from at ls ++ r) (row_width * k + 1) 0 ≡ get_or r (row_width * (k - length ls) + 1) 0
offset_behind at ls r k h =
    let i : row_width * k + 1 ≡ length (rows_from at ls) + (row_width * (k - length ls) + 1) = omega (arith, rows_length at ls) in
    ap (λ (j : ℕ). get_or (rows_from at ls ++ r) j 0) i ∙ get_or-append-add (rows_from at ls) r (row_width * (k - length ls) + 1) 0

-- The offsets of some rows are past a place, or 0
abbrev AllPast : (place : ℕ) (r : List ℕ) → Type 0
AllPast place r = (k : ℕ) → 0 < get_or r (row_width * k + 1) 0 → place < get_or r (row_width * k + 1) 0

-- So are those of leaves that begin past it, with such rows behind them
past_leaves : (place at : ℕ) (ls : List Leaf) (r : List ℕ) → place < at → AllPast place r → AllPast place (rows_from at ls ++ r)
past_leaves place at ls r h p k z = go (ltb k (length ls)) refl
  where
    go : (b : Bool) → ltb k (length ls) ≡ b → place < get_or (rows_from at ls ++ r) (row_width * k + 1) 0
    go true e = omega (arith, (offset_in at ls r k (ltb-true _ _ e)).0)
    go false e = let q = offset_behind at ls r k (ltb-false _ _ e) in omega (arith, q, p (k - length ls) (omega (arith, q)))

-- And those of items, past where the items begin
past_items : (at m : ℕ) (is : List Item) → AllPast at (rows_of (placed at is) ++ replicate m 0)
past_items at m [] = λ k z. absurd (omega (arith, zero_at m (row_width * k + 1)))
past_items at m (sentinel ∷ is) = λ k z. omega (arith, past_items (at + 4 + length sentinel_bytes) m is k z)
past_items at m (entity v ∷ is) =
    let end : ℕ = at + 4 + length (bytes Entity v) in
    let rest : List ℕ = rows_of (placed end is) in
    rw (append_assoc (rows_from (at + 4) (leaves Entity v)) rest (replicate m 0))
    (past_leaves at (at + 4) (leaves Entity v) (rest ++ replicate m 0) (omega arith) (λ k z. omega (arith, past_items end m is k z)))

-- The rows of an entity at the start of those from a row on
module _ (t : List ℕ) (row at m : ℕ) (v : Value Entity) (is : List Item)
    (d : drop (row_width * row) t ≡ (rows_from at (leaves Entity v) ++ rows_of (placed (at + length (bytes Entity v)) is)) ++ replicate m 0) where
  abbrev n : ℕ
  n = length (leaves Entity v)

  abbrev end : ℕ
  end = at + length (bytes Entity v)

  abbrev l : List ℕ
  l = rows_from at (leaves Entity v)

  abbrev b : List ℕ
  b = rows_of (placed end is) ++ replicate m 0

  d₁ : drop (row_width * row) t ≡ l ++ b
  d₁ = d ∙ append_assoc l (rows_of (placed end is)) (replicate m 0)

  -- The table has the entity's rows
  there : (k : ℕ) → k < n → row + k < whole_rows t
  there k h = omega (arith, rows_length at (leaves Entity v), ap length d₁, length-append l b, length-drop (row_width * row) t)

  -- The numbers from the row on
  number_is : (i : ℕ) → get_or t (row_width * row + i) 0 ≡ get_or (l ++ b) i 0
  number_is i = sym (get_or-drop (row_width * row) t i 0) ∙ ap (λ (x : List ℕ). get_or x i 0) d₁

  offset_is : (k : ℕ) → offset_at t (row + k) ≡ get_or (l ++ b) (row_width * k + 1) 0
  offset_is k =
      let i : row_width * (row + k) + 1 ≡ row_width * row + (row_width * k + 1) = omega arith in
      ap (λ (j : ℕ). get_or t j 0) i ∙ number_is (row_width * k + 1)

  -- The first row is the kind
  pub kind_row : row_of t row ≡ record { sort = sort_number Kind; offset = at; value = value_in (leaves Entity v) 0 }
  unfolding Entity
  kind_row =
      let z : row_width * row ≡ row_width * row + 0 = omega arith in
      let sort : sort_at t row ≡ sort_number Kind = ap (λ (j : ℕ). get_or t j 0) z ∙ number_is 0 in
      let offset : offset_at t row ≡ at = number_is 1 in
      let value : value_at t row ≡ value_in (leaves Entity v) 0 = number_is 2 in
      row_there t row (omega (arith, there 0 (omega arith))) ∙ λ i. record { sort = sort i; offset = offset i; value = value i }

  -- A row of the entity is within its entry, and one behind them is not
  row_among : 4 ≤ at → (k : ℕ) → k < n → row_within t (at - 4) end (row + k) ≡ true
  row_among h k j =
      let o = offset_in at (leaves Entity v) b k j in
      rw (row_there t (row + k) (there k j), lt-ltb (at - 4) (offset_at t (row + k)) (omega (arith, offset_is k, o.0)), le-leb (offset_at t (row + k)) end (omega (arith, offset_is k, o.1)))

  row_behind : (k : ℕ) → n ≤ k → row_within t (at - 4) end (row + k) ≡ false
  row_behind k h =
      let o = offset_is k ∙ offset_behind at (leaves Entity v) b k h in
      not_within t (at - 4) end (row + k) (λ z. omega (arith, o, past_items end m is (k - n) (omega (arith, o, z))))

  -- So exactly these are, of the rows from the first on
  pub entry_rows : 4 ≤ at → EntryRows t (at - 4) end row (row + n)
  unfolding Entity
  entry_rows h = record {
    some = omega arith;
    inside = λ r low high. let k : (k : ℕ) × (r ≡ row + k) = (r - row, omega arith) in rw k.1 (row_among h k.0 (omega (arith, k.1)));
    beyond = λ r low. let k : (k : ℕ) × (r ≡ row + k) = (r - row, omega arith) in rw k.1 (row_behind k.0 (omega (arith, k.1)));
  }

-- The table has a row that is within
pub within_there : (t : List ℕ) (start end row : ℕ) → row_within t start end row ≡ true → row < whole_rows t
within_there t start end row h = go (leb (whole_rows t) row) refl
  where
    go : (b : Bool) → leb (whole_rows t) row ≡ b → row < whole_rows t
    go true e = let q = row_outside t start end row (leb-true _ _ e) in let z : ◌≡◌ {A = ℕ} 0 1 = cc in absurd (omega arith)
    go false e = leb-false _ _ e

module _ {t : List ℕ} {start end first next : ℕ} (rows : EntryRows t start end first next) (row : ℕ) where
  -- A row from the first on that is not within comes after all that are
  pub not_before : first ≤ row → row_within t start end row ≡ false → next ≤ row
  not_before h q = go (leb next row) refl
    where
      go : (b : Bool) → leb next row ≡ b → next ≤ row
      go true e = leb-true _ _ e
      go false e = let p = rows.inside row h (leb-false _ _ e) in let z : ◌≡◌ {A = ℕ} 0 1 = cc in absurd (omega arith)

  -- And one that is within comes before the next
  pub not_after : row_within t start end row ≡ true → row < next
  not_after q = go (leb next row) refl
    where
      go : (b : Bool) → leb next row ≡ b → row < next
      go true e = let p = rows.beyond row (leb-true _ _ e) in let z : ◌≡◌ {A = ℕ} 0 1 = cc in absurd (omega arith)
      go false e = leb-false _ _ e
