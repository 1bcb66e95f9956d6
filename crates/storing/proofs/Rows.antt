-- Rows that are stored one after the other, those that fit; and where an entity ends.
use Prim.Native.Nat.{ℕ, zero, suc, ◌+◌, ◌-◌, ◌%◌, ◌≤◌, ◌<◌}
use native.Mathlib.Omega.{arith}
use mathlib.Core.Bool.{Bool, true, false, cond}
use mathlib.Core.List.{List, [], ◌∷◌, ◌++◌}
use mathlib.Core.Path.{◌≡◌, refl, sym, ap, ◌∙◌}
use lib.Dec.{leb}
use lib.ListN.{length, take, drop}
use borrow.Author.Tests.{le-leb, lt-leb, leb-true}
use Rattle.layout.specs.Written.{four, sort_at, offset_at, value_at}
use Rattle.layout.specs.Answers.{whole_rows}
use Rattle.paste.specs.Pasted.{pasted}
use Rattle.paste.proofs.Pasted.{pasted_none, pasted_append, pasted_length}
use Rattle.storing.specs.Private.{text_bytes, row_bytes, Spot, spot, stored_bytes, stored_row, stored_rows, is_kind, next_kind, entity_end, stored_payload}

module _ (b : List ℕ) (at : ℕ) (dest : List ℕ) where
  -- Bytes fit, or do not
  pub bytes_fit : at + length b ≤ length dest → stored_bytes b (spot at dest) ≡ spot (at + length b) (pasted dest at b)
  unfolding stored_bytes
  bytes_fit h = rw (le-leb (at + length b) (length dest) h)

  pub bytes_left : length dest < at + length b → stored_bytes b (spot at dest) ≡ spot at dest
  unfolding stored_bytes
  bytes_left h = rw (lt-leb (at + length b) (length dest) h)

  -- The next place is not before this one, nor beyond the end
  between : at ≤ length dest → let q = stored_bytes b (spot at dest) in (at ≤ q.at) × (q.at ≤ length q.dest)
  unfolding stored_bytes
  between h = go (leb (at + length b) (length dest)) refl
    where
      go : (c : Bool) → leb (at + length b) (length dest) ≡ c → let q = cond c (spot (at + length b) (pasted dest at b)) (spot at dest) in (at ≤ q.at) × (q.at ≤ length q.dest)
      go true e = (omega arith, omega (arith, leb-true _ _ e, pasted_length dest at b))
      go false e = (omega arith, h)

  pub bytes_between : at ≤ length dest → (r : ℕ) (after : List ℕ) → spot r after ≡ stored_bytes b (spot at dest) → (at ≤ r) × (r ≤ length after)
  bytes_between h r after e = rw (← e) at between h

-- A text within the lent bytes
pub text_there : (text : List ℕ) (start size : ℕ) → leb (start + size) (length text) ≡ true → text_bytes text start size ≡ four size ++ take size (drop start text)
unfolding text_bytes
text_there text start size e = rw e

-- Of one that leaves them nothing is stored
pub text_outside : (text : List ℕ) (start size at : ℕ) (dest : List ℕ) → at ≤ length dest → length text < start + size → spot at dest ≡ stored_bytes (text_bytes text start size) (spot at dest)
unfolding text_bytes
text_outside text start size at dest k h =
    let z : at + 0 ≡ at = omega arith in
    rw (lt-leb (start + size) (length text) h) (sym (bytes_fit [] at dest (omega arith) ∙ rw (pasted_none dest at k, z)))

-- The others fit, or do not
module _ (text : List ℕ) (start size at : ℕ) (dest bytes : List ℕ) (h : start + size ≤ length text) (e : bytes ≡ take (start + size - start) (drop start text)) where
  whole : text_bytes text start size ≡ four size ++ bytes
  whole = let m : start + size - start ≡ size = omega arith in text_there text start size (le-leb (start + size) (length text) h) ∙ rw (e, m)

  pub text_left : length dest < at + (4 + length bytes) → spot at dest ≡ stored_bytes (text_bytes text start size) (spot at dest)
  text_left n = rw whole (sym (bytes_left (four size ++ bytes) at dest (omega arith)))

  pub text_stored : at + (4 + length bytes) ≤ length dest → (at₁ : ℕ) (mid after : List ℕ) → spot at₁ mid ≡ stored_bytes (four size) (spot at dest) → after ≡ pasted mid at₁ bytes
      → spot (at + 4 + length bytes) after ≡ stored_bytes (text_bytes text start size) (spot at dest)
  text_stored n at₁ mid after a b =
      let m : spot at₁ mid ≡ spot (at + 4) (pasted dest at (four size)) = a ∙ bytes_fit (four size) at dest (omega arith) in
      let p : at₁ ≡ at + 4 = ap (λ (x : Spot). x.at) m in
      let q : mid ≡ pasted dest at (four size) = ap (λ (x : Spot). x.dest) m in
      let l : at + length (four size ++ bytes) ≡ at + 4 + length bytes = omega arith in
      let c : after ≡ pasted dest at (four size ++ bytes) = b ∙ rw (p, q) (pasted_append dest at (four size) bytes (omega arith)) in
      rw (whole, c) (sym (bytes_fit (four size ++ bytes) at dest (omega arith) ∙ ap (λ (j : ℕ). spot j (pasted dest at (four size ++ bytes))) l))

-- The bytes of a row
module _ (rows text : List ℕ) (i sort : ℕ) (e : sort ≡ sort_at rows i) (n : ℕ) (v : n ≡ value_at rows i) where
  pub bytes_one : sort ≤ 3 → row_bytes rows text i ≡ n % 256 ∷ []
  unfolding row_bytes
  bytes_one h = rw (← e, le-leb sort 3 h, ← v)

  pub bytes_four : 3 < sort → sort ≤ 5 → row_bytes rows text i ≡ four n
  unfolding row_bytes
  bytes_four h k = rw (← e, lt-leb sort 3 h, le-leb sort 5 k, ← v)

  pub bytes_text : 5 < sort → (o : ℕ) → o ≡ offset_at rows i → row_bytes rows text i ≡ text_bytes text o n
  unfolding row_bytes
  bytes_text h o u = rw (← e, lt-leb sort 3 (omega arith), lt-leb sort 5 h, ← v, ← u)

-- The rows from i on, up to row n: there is one more, or none
module _ (rows text : List ℕ) (n i : ℕ) (p : Spot) where
  pub rows_step : i < n → (next : Spot) → next ≡ stored_row rows text i p → stored_rows rows text (n - i) i p ≡ stored_rows rows text (n - (i + 1)) (i + 1) next
  unfolding stored_rows
  rows_step h next q = let e : n - i ≡ suc (n - (i + 1)) = omega arith in rw (e, q)

  pub rows_done : n ≤ i → stored_rows rows text (n - i) i p ≡ p
  unfolding stored_rows
  rows_done h = let e : n - i ≡ 0 = omega arith in rw e

-- The next kind
module _ (rows : List ℕ) where
  pub next_above : (n i : ℕ) → i ≤ next_kind rows n i
  unfolding next_kind
  next_above zero i = omega arith
  next_above (suc n) i = go (is_kind rows i) (next_above n (i + 1))
    where
      go : (b : Bool) → i + 1 ≤ next_kind rows n (i + 1) → i ≤ cond b i (next_kind rows n (i + 1))
      go true h = omega arith
      go false h = omega arith

  -- It is this row, or a later one; or no row is left
  pub next_here : (n i : ℕ) → is_kind rows i ≡ true → next_kind rows n i ≡ i
  unfolding next_kind
  next_here zero i e = refl
  next_here (suc n) i e = rw e

  pub next_later : (n i : ℕ) → i < n → is_kind rows i ≡ false → next_kind rows (n - i) i ≡ next_kind rows (n - (i + 1)) (i + 1)
  unfolding next_kind
  next_later n i h e = let q : n - i ≡ suc (n - (i + 1)) = omega arith in rw (q, e)

  pub next_none : (n i : ℕ) → n ≤ i → next_kind rows (n - i) i ≡ i
  unfolding next_kind
  next_none n i h = let e : n - i ≡ 0 = omega arith in rw e

  pub next_past : (m n i : ℕ) → i + m ≤ n → ((k : ℕ) → i ≤ k → k < i + m → is_kind rows k ≡ false) → next_kind rows (n - i) i ≡ next_kind rows (n - (i + m)) (i + m)
  next_past zero n i h q = let e : i ≡ i + 0 = omega arith in ap (λ (j : ℕ). next_kind rows (n - j) j) e
  next_past (suc m) n i h q =
      let e : i + 1 + m ≡ i + suc m = omega arith in
      next_later n i (omega arith) (q i (omega arith) (omega arith)) ∙ next_past m n (i + 1) (omega arith) (λ k a b. q k (omega arith) (omega arith)) ∙ ap (λ (j : ℕ). next_kind rows (n - j) j) e

-- The end of a payload, from what its first row and the others stored
module _ (rows text : List ℕ) (first begin : ℕ) (dest : List ℕ) (k : begin ≤ length dest) (p : Spot) (e : p ≡ stored_row rows text first (spot begin dest)) where
  pub payload_ends : (i : ℕ) (q : Spot) → p.at ≤ q.at → entity_end rows first ≡ i
      → stored_rows rows text (entity_end rows first - (first + 1)) (first + 1) p ≡ stored_rows rows text (entity_end rows first - i) i q
      → (i ≡ entity_end rows first) × ((begin ≤ q.at) × (q ≡ stored_payload rows text first (spot begin dest)))
  payload_ends i q m r s =
      let end = entity_end rows first in
      let (b, u) = bytes_between (row_bytes rows text first) begin dest k p.at p.dest e in
      let some : first < end = omega (arith, next_above rows (whole_rows rows - (first + 1)) (first + 1)) in
      (sym r, (omega arith, sym (rows_step rows text end first (spot begin dest) some p e ∙ s ∙ rows_done rows text end i q (omega arith))))
