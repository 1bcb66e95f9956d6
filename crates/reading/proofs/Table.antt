-- What is stored in the table.
use Prim.Native.Nat.{ℕ, suc, ◌+◌, ◌*◌, ◌/◌, ◌≤◌, ◌<◌, min}
use native.Mathlib.Nat.{add-zero}
use native.Mathlib.Omega.{arith}
use mathlib.Core.Bool.{Bool, true, false, cond}
use mathlib.Core.List.{List, [], ◌∷◌, ◌++◌, append_assoc, append-nil}
use mathlib.Core.Path.{◌≡◌, refl, ap, ◌∙◌}
use lib.ListN.{length, take, set, length-set}
use lib.Seq.{take-suc-set}
use borrow.Author.Tests.{lt-ltb}
use Rattle.layout.specs.Layout.{Leaf, plain, string}
use Rattle.layout.specs.Written.{leaf_bytes, row_width, row_at, rows_from}
use Rattle.layout.specs.Reading.{Outcome, ok, refuse}
use Rattle.layout.specs.Answers.{whole_rows}
use Rattle.reading.specs.State.{ReadState, store, room, arrive}
use Rattle.reading.specs.Theorems.{arrive_all}

-- Storing
store_length : (xs t : List ℕ) (i : ℕ) → length (store t i xs) ≡ length t
store_length [] t i = refl
store_length (x ∷ xs) t i = store_length xs (set t i x) (i + 1) ∙ length-set t i x

store_take : (xs t : List ℕ) (i : ℕ) → i + length xs ≤ length t → take (i + length xs) (store t i xs) ≡ take i t ++ xs
store_take [] t i h = rw (add-zero, append-nil)
store_take (x ∷ xs) t i h =
    let a : i + length (x ∷ xs) ≡ i + 1 + length xs = omega arith in
    let b : i + 1 ≡ suc i = omega arith in
    let e : take (i + 1 + length xs) (store (set t i x) (i + 1) xs) ≡ take (i + 1) (set t i x) ++ xs = store_take xs (set t i x) (i + 1) (omega (arith, length-set t i x)) in
    let f : take (i + 1) (set t i x) ≡ take i t ++ (x ∷ []) = rw b (take-suc-set t i x (omega arith)) in
    ap (λ (n : ℕ). take n (store (set t i x) (i + 1) xs)) a ∙ e ∙ ap (λ (l : List ℕ). l ++ xs) f ∙ append_assoc (take i t) (x ∷ []) xs

-- A leaf, read where a state is positioned
abbrev pub push : Leaf → ReadState → ReadState
push x st = arrive (ok x (st.cursor.at + length (leaf_bytes x))) st

row_length : (at : ℕ) (x : Leaf) → length (row_at at x) ≡ row_width
row_length at (plain srt n) = refl
row_length at (string t) = refl

pub arrive_length : (o : Outcome ℕ Leaf) (st : ReadState) → length (arrive o st).table ≡ length st.table
arrive_length (ok x next) st = go (room st)
  where
    go : (b : Bool) → length (cond b (store st.table (row_width * st.cursor.rows) (row_at st.cursor.at x)) st.table) ≡ length st.table
    go true = store_length (row_at st.cursor.at x) st.table (row_width * st.cursor.rows)
    go false = refl
arrive_length (refuse n p) st = refl

push_length : (x : Leaf) (st : ReadState) → length (push x st).table ≡ length st.table
push_length x st = arrive_length (ok x (st.cursor.at + length (leaf_bytes x))) st

pub arrive_all_length : (ls : List Leaf) (st : ReadState) → length (arrive_all ls st).table ≡ length st.table
arrive_all_length [] st = refl
arrive_all_length (x ∷ ls) st = arrive_all_length ls (push x st) ∙ push_length x st

-- The rows of ls are stored after those of st
pub record Filled (at : ℕ) (ls : List Leaf) (st r : ReadState) : Type 0 where
  pub rows : r.cursor.rows ≡ st.cursor.rows + length ls
  pub front : take (row_width * r.cursor.rows) r.table ≡ take (row_width * st.cursor.rows) st.table ++ rows_from at ls

push_fills : (x : Leaf) (st : ReadState) → st.cursor.rows < whole_rows st.table
    → ((push x st).cursor.rows ≡ st.cursor.rows + 1)
    × (take (row_width * (push x st).cursor.rows) (push x st).table ≡ take (row_width * st.cursor.rows) st.table ++ row_at st.cursor.at x)
push_fills x st h =
    let row = row_at st.cursor.at x in
    let n : (push x st).cursor.rows ≡ st.cursor.rows + 1 = omega arith in
    let l : length row ≡ row_width = row_length st.cursor.at x in
    let q : row_width * (st.cursor.rows + 1) ≡ row_width * st.cursor.rows + length row = omega arith in
    (n, rw (n, lt-ltb st.cursor.rows (whole_rows st.table) h, q) (store_take row st.table (row_width * st.cursor.rows) (omega arith)))

pub fills : (ls : List Leaf) (st : ReadState) → st.cursor.rows + length ls ≤ whole_rows st.table → Filled st.cursor.at ls st (arrive_all ls st)
fills [] st h = record { rows = omega arith; front = rw append-nil }
fills (x ∷ ls) st h =
    let (a, b) = push_fills x st (omega arith) in
    let i = fills ls (push x st) (omega (arith, a, ap (λ (n : ℕ). n / row_width) (push_length x st))) in
    record { rows = omega (arith, i.rows, a); front = i.front ∙ rw (b, append_assoc) }

-- Whether they fit or not, rows are counted up to one more than the table has
pub counts : (ls : List Leaf) (st : ReadState) → min (st.cursor.rows + length ls) (whole_rows st.table + 1) ≤ (arrive_all ls st).cursor.rows
counts [] st = omega arith
counts (x ∷ ls) st = omega (arith, counts ls (push x st), ap (λ (n : ℕ). n / row_width) (push_length x st))
