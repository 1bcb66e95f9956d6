-- The entry of an entity with a full_path takes 27 bytes or more.
use Prim.Native.Nat.{ℕ, zero, suc, ◌+◌, ◌*◌, ◌≤◌}
use native.Mathlib.Omega.{arith}
use mathlib.Core.Bool.{Bool, true, false}
use mathlib.Core.List.{List, [], ◌∷◌, ◌++◌}
use mathlib.Core.Logic.{◌⊎◌, inl, inr, ⊎_elim}
use mathlib.Core.Path.{◌≡◌, refl, ap}
use lib.Dec.{eqb}
use lib.ListN.{length, length-append, length-map, replicate}
use borrow.Author.Tests.{eqb-true, eqb-false}
use Rattle.layout.specs.Layout.{Kind, Leaf, plain, Layout, nothing, one, text, ◌then◌, case, check, fine, unknown_kind, Value, leaves, Proper}
use Rattle.layout.specs.Written.{width, four, plain_bytes, bytes_of, bytes}
use Rattle.layout.specs.Forms.{known, follows}
use Rattle.layout.specs.Entities.{value_in, OptionStr, ToSqlConfig, Entity, entity_kinds, CustomSql, Function, PostgresType, PostgresEnum, OrdOrHash, Aggregate, Trigger}
use Rattle.layout.proofs.InBytes.{bytes_of_append}
use Rattle.section.specs.Derivation.{Item, sentinel, entity, payload, entry, entries, ProperItem, ProperItems, placed}
use Rattle.section.proofs.Derivation.{leaf_size_bytes}
use Rattle.paths.specs.Paths.{text_field, field_of, full_path_fields, full_path, kind_and_path, kinds_and_paths}
use Rattle.paths.specs.Theorems.{PathsFew}
use Rattle.paths.proofs.Fields.{kind_above, item_path}
use Rattle.paths.proofs.Walk.{item_paths}

-- As many bytes every value of a layout derives, whatever follows a tag
abbrev least : Layout → ℕ
least nothing = 0
least (one srt) = width srt
least text = 4
least (A then B) = least A + least B
least (case srt A j B) = width srt + least A
least (check A j) = least A

least_bytes : (L : Layout) (v : Value L) → least L ≤ length (bytes L v)
least_bytes nothing v = omega arith
least_bytes (one srt) n = omega (arith, length-append (plain_bytes srt n) [], leaf_size_bytes (plain srt n))
least_bytes text t = omega (arith, length-append (four (length t) ++ t) [], length-append (four (length t)) t)
least_bytes (A then B) v =
    omega (arith, ap length (bytes_of_append (leaves A v.0) (leaves B v.1)), length-append (bytes A v.0) (bytes B v.1), least_bytes A v.0, least_bytes B v.1)
least_bytes (case srt A j B) v =
    let xs : List Leaf = leaves A v.1 in
    let ys : List Leaf = leaves (B v.0) v.2 in
    omega (arith, length-append (plain_bytes srt v.0) (bytes_of (xs ++ ys)), leaf_size_bytes (plain srt v.0), ap length (bytes_of_append xs ys), length-append (bytes_of xs) (bytes_of ys), least_bytes A v.1)
least_bytes (check A j) v = least_bytes A v

-- What follows the kind of an entity other than a schema takes 22 bytes or more
after_kind : (kind : ℕ) (b : Value (follows entity_kinds kind)) → known unknown_kind entity_kinds kind ≡ fine → (kind ≡ 1 → ⊥) → 22 ≤ length (bytes (follows entity_kinds kind) b)
unfolding CustomSql Function PostgresType PostgresEnum OrdOrHash Aggregate Trigger ToSqlConfig OptionStr
after_kind zero b k n = let z : ◌≡◌ {A = ℕ} 0 1 = cc in absurd (omega arith)
after_kind (suc zero) b k n = absurd (n refl)
after_kind (suc (suc zero)) b k n = omega (arith, least_bytes CustomSql b)
after_kind (suc (suc (suc zero))) b k n = omega (arith, least_bytes Function b)
after_kind (suc (suc (suc (suc zero)))) b k n = omega (arith, least_bytes PostgresType b)
after_kind (suc (suc (suc (suc (suc zero))))) b k n = omega (arith, least_bytes PostgresEnum b)
after_kind (suc (suc (suc (suc (suc (suc zero)))))) b k n = omega (arith, least_bytes OrdOrHash b)
after_kind (suc (suc (suc (suc (suc (suc (suc zero))))))) b k n = omega (arith, least_bytes OrdOrHash b)
after_kind (suc (suc (suc (suc (suc (suc (suc (suc zero)))))))) b k n = omega (arith, least_bytes Aggregate b)
after_kind (suc (suc (suc (suc (suc (suc (suc (suc (suc zero))))))))) b k n = omega (arith, least_bytes Trigger b)
after_kind (suc (suc (suc (suc (suc (suc (suc (suc (suc (suc m)))))))))) b k n = absurd (kind_above (suc (suc (suc (suc (suc (suc (suc (suc (suc (suc m)))))))))) (omega arith) k)

-- An entity has no full_path, or one
pub one_or_none : (ls : List Leaf) → (full_path ls ≡ []) ⊎ ((t : List ℕ) × (full_path ls ≡ t ∷ []))
one_or_none ls = go (field_of full_path_fields (value_in ls 0))
  where
    go : (i : ℕ) → (text_field ls i ≡ []) ⊎ ((t : List ℕ) × (text_field ls i ≡ t ∷ []))
    go zero = inl refl
    go (suc i) = inr (_, refl)

pub full_path_one : (ls : List Leaf) → length (full_path ls) ≤ 1
full_path_one ls = ⊎_elim (λ p. omega (arith, ap length p)) (λ p. omega (arith, ap length p.1)) (one_or_none ls)

pub kind_and_path_one : (ls : List Leaf) → length (kind_and_path ls) ≤ 1
kind_and_path_one ls = omega (arith, full_path_one ls, length-map (full_path ls) (λ path. value_in ls 0 ∷ path))

path_length : (kind : ℕ) (ls : List Leaf) → (kind ≡ 1 → length (kind_and_path (plain Kind kind ∷ ls)) ≡ 0) × (length (kind_and_path (plain Kind kind ∷ ls)) ≤ 1)
path_length kind ls = (λ e. rw e, kind_and_path_one (plain Kind kind ∷ ls))

entity_few : (v : Value Entity) → Proper Entity v → 27 * length (kind_and_path (leaves Entity v)) ≤ 4 + length (bytes Entity v)
unfolding Entity
entity_few v p =
    let ls : List Leaf = leaves (follows entity_kinds v.0) v.2 in
    let (none, most) = path_length v.0 ls in
    go (eqb v.0 1) refl none most
  where
    go : (b : Bool) → eqb v.0 1 ≡ b → (v.0 ≡ 1 → length (kind_and_path (plain Kind v.0 ∷ leaves (follows entity_kinds v.0) v.2)) ≡ 0) → length (kind_and_path (plain Kind v.0 ∷ leaves (follows entity_kinds v.0) v.2)) ≤ 1
        → 27 * length (kind_and_path (plain Kind v.0 ∷ leaves (follows entity_kinds v.0) v.2)) ≤ 4 + length (bytes_of (plain Kind v.0 ∷ leaves (follows entity_kinds v.0) v.2))
    go true e none most = omega (arith, none (eqb-true v.0 1 e))
    go false e none most = omega (arith, most, after_kind v.0 v.2 p.2 (eqb-false v.0 1 e))

item_few : (i : Item) → ProperItem i → 27 * length (item_path i) ≤ length (entry i)
item_few sentinel p = omega arith
item_few (entity v) p = omega (arith, entity_few v p.0, length-append (four (length (bytes Entity v))) (bytes Entity v))

items_few : (at : ℕ) (is : List Item) → ProperItems is → 27 * length (kinds_and_paths (placed at is)) ≤ length (entries is)
items_few at [] p = omega arith
items_few at (i ∷ is) p =
    let n : ℕ = at + 4 + length (payload i) in
    omega (arith, ap length (item_paths at i is), length-append (item_path i) (kinds_and_paths (placed n is)), length-append (entry i) (entries is), item_few i p.0, items_few n is p.1)

pub paths_few : PathsFew
paths_few s d g =
    omega (arith, items_few 0 d.items g.by.proper, ap length g.by.derives, length-append (entries d.items) (replicate d.padding 0))
