-- What a derivation derives: its length, and that it determines the derivation.
use Prim.Native.Nat.{ℕ, zero, suc, ◌+◌, ◌*◌, ◌/◌, ◌%◌, ◌≤◌, ◌<◌}
use native.Mathlib.Nat.{add-zero, zero-add}
use native.Mathlib.Omega.{arith}
use mathlib.Core.List.{List, [], ◌∷◌, ◌++◌, map, append_assoc, head-eq_of_cons-eq, tail-eq_of_cons-eq}
use mathlib.Core.Path.{◌≡◌, refl, sym, ap, ◌∙◌}
use lib.ListN.{length, get_or, replicate, length-append, length-replicate}
use Rattle.layout.specs.Layout.{Kind, Tag, Flag, Number, Count, Leaf, plain, string, Value, leaves, Proper}
use Rattle.layout.specs.Written.{four, leaf_bytes, bytes_of, bytes}
use Rattle.layout.specs.Entities.{Entity}
use Rattle.layout.proofs.Numbers.{number_four}
use Rattle.layout.proofs.Rows.{leaves_bytes}
use Rattle.layout.proofs.InBytes.{value_unique}
use Rattle.framing.specs.Entries.{sentinel_bytes}
use Rattle.framing.proofs.Framing.{four_zero}
use Rattle.section.specs.Derivation.{Item, sentinel, entity, payload, entry, entries, ProperItem, ProperItems, Placed, placed, total_leaves, entities_of, sentinels, leaf_size, leaf_sizes, entity_sizes}
use Rattle.section.specs.Theorems.{DerivationUnique, ByteSum, RowsBound, moved_by, SentinelFree}

-- Sizes
pub leaf_size_bytes : (x : Leaf) → length (leaf_bytes x) ≡ leaf_size x
leaf_size_bytes (plain Kind n) = refl
leaf_size_bytes (plain Tag n) = refl
leaf_size_bytes (plain Flag n) = refl
leaf_size_bytes (plain Number n) = refl
leaf_size_bytes (plain Count n) = refl
leaf_size_bytes (string t) = omega arith

leaf_sizes_bytes : (ls : List Leaf) → length (bytes_of ls) ≡ leaf_sizes ls
leaf_sizes_bytes [] = refl
leaf_sizes_bytes (x ∷ ls) = omega (arith, length-append (leaf_bytes x) (bytes_of ls), leaf_size_bytes x, leaf_sizes_bytes ls)

entries_sum : (at : ℕ) (is : List Item) → 4 * length (placed at is) + entity_sizes (placed at is) + 13 * sentinels is ≡ length (entries is)
entries_sum at [] = refl
entries_sum at (sentinel ∷ is) = omega (arith, entries_sum (at + 4 + length (payload sentinel)) is)
entries_sum at (entity v ∷ is) =
    omega (arith, entries_sum (at + 4 + length (bytes Entity v)) is, leaf_sizes_bytes (leaves Entity v), length-append (bytes Entity v) (entries is))

pub byte_sum : ByteSum
byte_sum d = omega (arith, entries_sum 0 d.items, length-append (entries d.items) (replicate d.padding 0), length-replicate {A = ℕ} d.padding 0)

leaves_sizes : (es : List Placed) → total_leaves es ≤ entity_sizes es
leaves_sizes [] = omega arith
leaves_sizes (e ∷ es) = omega (arith, leaf_sizes_bytes e.content, leaves_bytes e.content, leaves_sizes es)

pub rows_bound : RowsBound
rows_bound d = omega (arith, byte_sum d, leaves_sizes (entities_of d))

-- A payload has at least one byte, and its length fits 4 bytes
pub payload_some : (i : Item) → 1 ≤ length (payload i)
unfolding Entity
payload_some sentinel = omega arith
payload_some (entity v) = omega arith

pub payload_small : (i : Item) → ProperItem i → length (payload i) < 4294967296
payload_small sentinel p = omega arith
payload_small (entity v) p = p.1

-- An entity's first byte is a known kind, so it is not 0
pub kind_some : (v : Value Entity) → Proper Entity v → (r : List ℕ) → bytes Entity v ≡ 0 ∷ r → ⊥
unfolding Entity
kind_some v p r e =
    let k : v.0 ≡ 0 = head-eq_of_cons-eq e in
    let j = rw k at p.2 in
    let z : ◌≡◌ {A = ℕ} 0 1 = cc in
    omega arith

four_unique : (m n : ℕ) (x y : List ℕ) → m < 4294967296 → n < 4294967296 → four m ++ x ≡ four n ++ y → (m ≡ n) × (x ≡ y)
four_unique m n x y hm hn e =
    let a : m % 256 ≡ n % 256 = cc in
    let b : m / 256 % 256 ≡ n / 256 % 256 = cc in
    let c : m / 65536 % 256 ≡ n / 65536 % 256 = cc in
    let d : m / 16777216 % 256 ≡ n / 16777216 % 256 = cc in
    let r : x ≡ y = cc in
    (sym (number_four m hm) ∙ rw (a, b, c, d) (number_four n hn), r)

pub append_parts : (a b r t : List ℕ) → length a ≡ length b → a ++ r ≡ b ++ t → (a ≡ b) × (r ≡ t)
append_parts [] [] r t h e = (refl, e)
append_parts [] (y ∷ b) r t h e = absurd (omega arith)
append_parts (x ∷ a) [] r t h e = absurd (omega arith)
append_parts (x ∷ a) (y ∷ b) r t h e =
    let g : x ≡ y = head-eq_of_cons-eq e in
    let p = append_parts a b r t (omega arith) (tail-eq_of_cons-eq e) in
    (rw (g, p.0), p.1)

item_unique : (i j : Item) → ProperItem i → ProperItem j → payload i ≡ payload j → i ≡ j
item_unique sentinel sentinel p q e = refl
item_unique sentinel (entity w) p q e = absurd (kind_some w q.0 _ (sym e))
item_unique (entity v) sentinel p q e = absurd (kind_some v p.0 _ e)
item_unique (entity v) (entity w) p q e = ap entity (value_unique Entity v w [] [] p.0 q.0 (rw e)).0

-- Padding is not an entry
pub zero_at : (m k : ℕ) → ◌≡◌ {A = ℕ} (get_or (replicate m 0) k 0) 0
zero_at zero k = refl
zero_at (suc m) zero = refl
zero_at (suc m) (suc k) = zero_at m k

no_entry : (i : Item) (m : ℕ) (r : List ℕ) → ProperItem i → replicate m 0 ≡ entry i ++ r → ⊥
no_entry i m r p e =
    let at : (k : ℕ) → get_or (replicate m 0) k 0 ≡ get_or (entry i ++ r) k 0 = λ k. ap (λ (l : List ℕ). get_or l k 0) e in
    let n : length (payload i) ≡ 0 = four_zero (length (payload i)) (payload_small i p) (sym (at 0) ∙ zero_at m 0) (sym (at 1) ∙ zero_at m 1) (sym (at 2) ∙ zero_at m 2) (sym (at 3) ∙ zero_at m 3) in
    omega (arith, payload_some i)

entries_unique : (is js : List Item) (m n : ℕ) → ProperItems is → ProperItems js → entries is ++ replicate m 0 ≡ entries js ++ replicate n 0 → (is ≡ js) × (m ≡ n)
entries_unique [] [] m n p q e = (refl, simp length-replicate at (ap length e))
entries_unique [] (j ∷ js) m n p q e = absurd (no_entry j m (entries js ++ replicate n 0) q.0 (rw append_assoc at e))
entries_unique (i ∷ is) [] m n p q e = absurd (no_entry i n (entries is ++ replicate m 0) p.0 (rw append_assoc at (sym e)))
entries_unique (i ∷ is) (j ∷ js) m n p q e =
    let f = four_unique (length (payload i)) (length (payload j)) (payload i ++ (entries is ++ replicate m 0)) (payload j ++ (entries js ++ replicate n 0)) (payload_small i p.0) (payload_small j q.0) (simp append_assoc at e) in
    let g = append_parts (payload i) (payload j) (entries is ++ replicate m 0) (entries js ++ replicate n 0) f.0 f.1 in
    let h = entries_unique is js m n p.1 q.1 g.1 in
    (rw (item_unique i j p.0 q.0 g.0, h.0), h.1)

pub derivation_unique : DerivationUnique
derivation_unique s d e p q =
    let h = entries_unique d.items e.items d.padding e.padding p.proper q.proper (p.derives ∙ sym q.derives) in
    λ k. record { items = h.0 k; padding = h.1 k }

-- Sentinels
placed_append : (at : ℕ) (is js : List Item) → placed at (is ++ js) ≡ placed at is ++ placed (at + length (entries is)) js
placed_append at [] js = rw add-zero
placed_append at (sentinel ∷ is) js =
    let e : at + 4 + length sentinel_bytes + length (entries is) ≡ at + length (entries (sentinel ∷ is)) = omega arith in
    rw (← e) (placed_append (at + 4 + length sentinel_bytes) is js)
placed_append at (entity v ∷ is) js =
    let e : at + 4 + length (bytes Entity v) + length (entries is) ≡ at + length (entries (entity v ∷ is)) = omega (arith, length-append (bytes Entity v) (entries is)) in
    rw (← e) (ap (λ (l : List Placed). record { at = at + 4; content = leaves Entity v } ∷ l) (placed_append (at + 4 + length (bytes Entity v)) is js))

placed_moved : (n at : ℕ) (is : List Item) → placed (n + at) is ≡ map (moved_by n) (placed at is)
placed_moved n at [] = refl
placed_moved n at (sentinel ∷ is) =
    let e : n + at + 4 + length sentinel_bytes ≡ n + (at + 4 + length sentinel_bytes) = omega arith in
    ap (λ (x : ℕ). placed x is) e ∙ placed_moved n (at + 4 + length sentinel_bytes) is
placed_moved n at (entity v ∷ is) =
    let e : n + at + 4 + length (bytes Entity v) ≡ n + (at + 4 + length (bytes Entity v)) = omega arith in
    let f : n + at + 4 ≡ n + (at + 4) = omega arith in
    ap (λ (x : ℕ). record { at = x; content = leaves Entity v } ∷ placed (n + at + 4 + length (bytes Entity v)) is) f
    ∙ ap (λ (l : List Placed). record { at = n + (at + 4); content = leaves Entity v } ∷ l) (ap (λ (x : ℕ). placed x is) e ∙ placed_moved n (at + 4 + length (bytes Entity v)) is)

from_start : (is js : List Item) → placed 0 (is ++ js) ≡ placed 0 is ++ placed (length (entries is)) js
from_start is js = placed_append 0 is js ∙ ap (λ (x : ℕ). placed 0 is ++ placed x js) (zero-add (length (entries is)))

pub sentinel_free : SentinelFree
sentinel_free before after =
    let e : length (entries before) + 4 + length sentinel_bytes ≡ 13 + length (entries before) = omega arith in (
      from_start before (sentinel ∷ after) ∙ ap (λ (l : List Placed). placed 0 before ++ l) (ap (λ (x : ℕ). placed x after) e ∙ placed_moved 13 (length (entries before)) after),
      from_start before after,
    )
