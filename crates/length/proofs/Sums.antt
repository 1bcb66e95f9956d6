-- A sum, above the limit or not; and the sum of a list, item by item.
use Prim.Native.Nat.{ℕ, ◌+◌, ◌≤◌, ◌<◌}
use native.Mathlib.Numerals.{add-one}
use native.Mathlib.Omega.{arith}
use mathlib.Core.Bool.{Bool, true, false, cond}
use mathlib.Core.List.{List}
use mathlib.Core.Path.{◌≡◌, refl, sym, ◌∙◌}
use lib.Dec.{leb}
use lib.ListN.{length, get_or, drop, drop_of_length-le}
use lib.Seq.{drop-cons}
use borrow.Author.Tests.{leb-true, leb-false, le-leb, lt-leb}
use Rattle.layout.specs.Answers.{limit}
use Rattle.table.specs.Answers.{counted, uncounted}
use Rattle.length.specs.Length.{too_long, within_limit, sum}

-- A length within the limit
pub within_limit_lem : (n : ℕ) → n ≤ limit → within_limit n ≡ counted n
unfolding within_limit
within_limit_lem n h = rw (le-leb n limit h)

-- A length above it
pub above_limit : (n : ℕ) → limit < n → within_limit n ≡ too_long
unfolding within_limit
above_limit n h = rw (lt-leb n limit h)

-- What is told of a length: the length itself, within the limit; or a refusal above it
pub counted_within : (n t : ℕ) → counted t ≡ within_limit n → (t ≡ n) × (n ≤ limit)
unfolding within_limit
counted_within n t = go (leb n limit) refl
  where
    go : (b : Bool) → leb n limit ≡ b → counted t ≡ cond b (counted n) too_long → (t ≡ n) × (n ≤ limit)
    go true h e = (cc, leb-true n limit h)
    go false h e = absurd (let w : ◌≡◌ {A = ℕ} 0 1 = cc in omega arith)

refused_above : (n k p : ℕ) → uncounted k p ≡ within_limit n → limit < n
unfolding within_limit
refused_above n k p = go (leb n limit) refl
  where
    go : (b : Bool) → leb n limit ≡ b → uncounted k p ≡ cond b (counted n) too_long → limit < n
    go true h e = absurd (let w : ◌≡◌ {A = ℕ} 0 1 = cc in omega arith)
    go false h e = leb-false n limit h

-- Once a part of a length is above the limit, so is the whole
pub still_above : (part whole k p : ℕ) → uncounted k p ≡ within_limit part → part ≤ whole → uncounted k p ≡ within_limit whole
still_above part whole k p e h =
    let above = refused_above part k p e in
    e ∙ above_limit part above ∙ sym (above_limit whole (omega arith))

-- The first of the items that are left, and the others
pub sum_next : (items : List ℕ) (i : ℕ) → i < length items → sum (drop i items) ≡ get_or items i 0 + sum (drop (i + 1) items)
sum_next items i h = rw (add-one, drop-cons items i 0)

-- None is left
pub sum_end : (items : List ℕ) (i : ℕ) → length items ≤ i → sum (drop i items) ≡ 0
sum_end items i h = rw drop_of_length-le
