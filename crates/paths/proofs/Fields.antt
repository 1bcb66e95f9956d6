-- The full_path of a payload stands where the walk over the fields before it ends.
use Prim.Native.Nat.{ℕ, zero, suc, ◌+◌, ◌≤◌, ◌<◌}
use native.Mathlib.Nat.{add-zero}
use native.Mathlib.Omega.{arith}
use mathlib.Core.Bool.{Bool, true, false}
use mathlib.Core.List.{List, [], ◌∷◌, ◌++◌, append_assoc, map}
use mathlib.Core.Logic.{◌≢◌}
use mathlib.Core.Path.{◌≡◌, refl, sym, ap, ◌∙◌}
use lib.ListN.{length, get_or, drop, length-drop}
use lib.Seq.{take-append_seam, get_or-drop}
use lib.Dec.{eqb}
use borrow.Author.Tests.{leb-true, ne_eqb, eqb-true, eqb-false}
use Rattle.std.specs.Prelude.{Option, Some, None}
use Rattle.layout.specs.Layout.{Kind, Number, Leaf, plain, string, fine, wrong, unknown_kind, Value, leaves, Fits, Meets, Proper}
use Rattle.layout.specs.Written.{four, leaf_bytes, bytes_of, bytes}
use Rattle.layout.specs.Forms.{known, follows}
use Rattle.layout.specs.Entities.{Entity, entity_kinds, CustomSql, Function, PostgresType, PostgresEnum, OrdOrHash, Aggregate, Trigger}
use Rattle.layout.specs.Answers.{limit}
use Rattle.layout.proofs.InBytes.{rest_after, bytes_of_append, four_complete}
use Rattle.layout.proofs.Tables.{known_outside}
use Rattle.raw_bytes.specs.Bytes.{number_or0}
use Rattle.raw_bytes.proofs.Number.{number_there}
use Rattle.section.specs.Derivation.{Item, sentinel, entity, payload, ProperItem}
use Rattle.runs.specs.Runs.{text_from}
use Rattle.paths.specs.Paths.{full_path_fields, field_of, text_of, full_path, kind_and_path}
use Rattle.paths.specs.Theorems.{PathText, PathIsText}
use Rattle.paths.specs.Private.{Field, T, N, after_field, after_fields, fields_before, place_by, path_place, path_at, PayloadIn}

-- A length that stands at a place
length_stands : (s : List ℕ) (at n : ℕ) (r : List ℕ) → n < 4294967296 → drop at s ≡ four n ++ r → (at + 4 ≤ length s) × (number_or0 s at ≡ n)
length_stands s at n r h e =
    let d : drop (at + 4) s ≡ r = rest_after s at (four n) r e in
    let (l, k) = four_complete s at (at + 4) n h (rw d e) in
    let i : at + 4 ≤ length s = leb-true (at + 4) (length s) l in
    (i, number_there s at i ∙ k)

-- A leaf is a field of its sort
data IsField : Field → Leaf → Type 0 where
  a_text : {t : List ℕ} → length t < 4294967296 → IsField T (string t)
  a_number : {n : ℕ} → IsField N (plain Number n)

-- Leaves are fields of their sorts
data AreFields : List Field → List Leaf → Type 0 where
  none : AreFields [] []
  more : {f : Field} {x : Leaf} {fs : List Field} {xs : List Leaf} → IsField f x → AreFields fs xs → AreFields (f ∷ fs) (x ∷ xs)

after_field_lem : (s : List ℕ) {f : Field} {x : Leaf} (at : ℕ) (r : List ℕ) → IsField f x → drop at s ≡ leaf_bytes x ++ r → drop (after_field s f at) s ≡ r
after_field_lem s at r (a_text {t} h) e =
    let g : drop at s ≡ four (length t) ++ (t ++ r) = rw append_assoc at e in
    rw (length_stands s at (length t) (t ++ r) h g).1 (rest_after s (at + 4) t r (rest_after s at (four (length t)) (t ++ r) g))
after_field_lem s at r (a_number {n}) e = rest_after s at (four n) r e

after_fields_lem : (s : List ℕ) {fs : List Field} {xs : List Leaf} (at : ℕ) (r : List ℕ) → AreFields fs xs → drop at s ≡ bytes_of xs ++ r → drop (after_fields s fs at) s ≡ r
after_fields_lem s at r none e = e
after_fields_lem s at r (more {f} {x} {fs} {xs} h hs) e = after_fields_lem s (after_field s f at) r hs (after_field_lem s at (bytes_of xs ++ r) h (rw append_assoc at e))

-- The place by a kind that is known
pub place_in : (s : List ℕ) (at kind : ℕ) → get_or s at 0 ≡ kind → path_place s at ≡ place_by fields_before s kind (at + 1)
unfolding path_place
place_in s at kind e = rw e

-- The place by a kind that is one of two
pub place_of_two : (s : List ℕ) (at kind n : ℕ) (place : Option ℕ) → kind ≡ get_or s at 0 → n ≤ kind → kind ≤ n + 1 → place_by fields_before s n (at + 1) ≡ place → place_by fields_before s (n + 1) (at + 1) ≡ place → path_place s at ≡ place
place_of_two s at kind n place e h k p q = go (eqb kind n) refl
  where
    go : (b : Bool) → eqb kind n ≡ b → path_place s at ≡ place
    go true f = place_in s at n (sym e ∙ eqb-true kind n f) ∙ p
    go false f = let m : kind ≡ n → ⊥ = eqb-false kind n f in place_in s at (n + 1) (omega arith) ∙ q

-- A kind is not in the table
abbrev pub Outside : List (ℕ × List Field) → ℕ → Type 0
Outside [] n = Unit {0}
Outside (row ∷ rows) n = (n ≢ row.0) × Outside rows n

place_by_outside : (rows : List (ℕ × List Field)) (s : List ℕ) (n at : ℕ) → Outside rows n → place_by rows s n at ≡ None
place_by_outside [] s n at h = refl
place_by_outside (row ∷ rows) s n at h = rw (ne_eqb n row.0 h.0) (place_by_outside rows s n at h.1)

pub place_none : (s : List ℕ) (at kind : ℕ) → kind ≡ get_or s at 0 → Outside fields_before kind → path_place s at ≡ None
unfolding path_place
place_none s at kind e h = rw (← e) (place_by_outside fields_before s kind (at + 1) h)

-- A payload stands at a place, and its kind and full_path are as given
pub record Found (s : List ℕ) (at : ℕ) (ts : List (List ℕ)) : Type 0 where
  pub inside : PayloadIn s at
  pub path : path_at s at ≡ ts

first_byte : (s : List ℕ) (at n : ℕ) (r : List ℕ) → drop at s ≡ n ∷ r → (at < length s) × (get_or s at 0 ≡ n)
first_byte s at n r e = (omega (arith, ap length e, length-drop at s), rw add-zero at (sym (get_or-drop at s 0 0) ∙ ap (λ (l : List ℕ). get_or l 0 0) e))

found_none : (s : List ℕ) (at kind : ℕ) (r : List ℕ) → length s ≤ limit → drop at s ≡ kind ∷ r → place_by fields_before s kind (at + 1) ≡ None → Found s at []
unfolding path_at
found_none s at kind r h e p =
    let (b, k) = first_byte s at kind r e in
    let q : path_place s at ≡ None = place_in s at kind k ∙ p in
    record { inside = record { small = h; begins = b; path = rw q tt }; path = rw q }

text_stands : (s : List ℕ) (at : ℕ) (t r : List ℕ) → length t < 4294967296 → drop at s ≡ leaf_bytes (string t) ++ r → (at + 4 ≤ length s) × (text_from s at ≡ t)
unfolding text_from
text_stands s at t r h e =
    let g : drop at s ≡ four (length t) ++ (t ++ r) = rw append_assoc at e in
    let (i, k) = length_stands s at (length t) (t ++ r) h g in
    let d : drop (at + 4) s ≡ t ++ r = rest_after s at (four (length t)) (t ++ r) g in
    (i, rw (k, d) (take-append_seam t r))

-- The leaves after an entity's kind, cut at its full_path
record Cut (kind : ℕ) (ls : List Leaf) : Type 0 where
  fields : List Field
  before : List Leaf
  text : List ℕ
  after : List Leaf
  are : AreFields fields before
  fits : length text < 4294967296
  stands : ls ≡ before ++ (string text ∷ after)
  place : (s : List ℕ) (at : ℕ) → place_by fields_before s kind at ≡ Some (after_fields s fields at)
  field : field_of full_path_fields kind ≡ suc (length before)

-- An entity has no full_path, or its leaves are cut there
data Cutting (kind : ℕ) (ls : List Leaf) : Type 0 where
  whole : kind ≡ 1 → Cutting kind ls
  cut : Cut kind ls → Cutting kind ls

-- No kind is above 9
pub kind_above : (n : ℕ) → 9 < n → known unknown_kind entity_kinds n ≡ fine → ⊥
kind_above n h k =
    let e : known unknown_kind entity_kinds n ≡ wrong unknown_kind = known_outside unknown_kind entity_kinds n (above 1 (omega arith), (above 2 (omega arith), (above 3 (omega arith), (above 4 (omega arith), (above 5 (omega arith), (above 6 (omega arith), (above 7 (omega arith), (above 8 (omega arith), (above 9 (omega arith), tt))))))))) in
    let z : ◌≡◌ {A = ℕ} 0 1 = cc in
    omega arith
  where
    above : (m : ℕ) → m ≤ 9 → n ≢ m
    above m l = λ e. omega arith

cut_kind : (kind : ℕ) (b : Value (follows entity_kinds kind)) → known unknown_kind entity_kinds kind ≡ fine → Meets Fits (follows entity_kinds kind) b → Cutting kind (leaves (follows entity_kinds kind) b)
unfolding CustomSql Function PostgresType PostgresEnum OrdOrHash Aggregate Trigger
cut_kind zero b k p = let z : ◌≡◌ {A = ℕ} 0 1 = cc in absurd (omega arith)
cut_kind (suc zero) b k p = whole refl
cut_kind (suc (suc zero)) b k p =
    cut (record { fields = T ∷ T ∷ []; before = string b.0 ∷ string b.1.0 ∷ []; text = b.1.1.0; after = drop 3 (leaves CustomSql b); are = more (a_text p.0.1) (more (a_text p.1.0.1) none); fits = p.1.1.0.1; stands = refl; place = λ s at. refl; field = refl })
cut_kind (suc (suc (suc zero))) b k p =
    cut (record { fields = T ∷ T ∷ T ∷ []; before = string b.0 ∷ string b.1.0 ∷ string b.1.1.0 ∷ []; text = b.1.1.1.0; after = drop 4 (leaves Function b); are = more (a_text p.0.1) (more (a_text p.1.0.1) (more (a_text p.1.1.0.1) none)); fits = p.1.1.1.0.1; stands = refl; place = λ s at. refl; field = refl })
cut_kind (suc (suc (suc (suc zero)))) b k p =
    cut (record
    { fields = T ∷ T ∷ N ∷ T ∷ []; before = string b.0 ∷ string b.1.0 ∷ plain Number b.1.1.0 ∷ string b.1.1.1.0 ∷ []; text = b.1.1.1.1.0; after = drop 5 (leaves PostgresType b); are = more (a_text p.0.1) (more (a_text p.1.0.1) (more a_number (more (a_text p.1.1.1.0.1) none))); fits = p.1.1.1.1.0.1; stands = refl; place = λ s at. refl; field = refl })
cut_kind (suc (suc (suc (suc (suc zero))))) b k p =
    cut (record
    { fields = T ∷ T ∷ N ∷ T ∷ []; before = string b.0 ∷ string b.1.0 ∷ plain Number b.1.1.0 ∷ string b.1.1.1.0 ∷ []; text = b.1.1.1.1.0; after = drop 5 (leaves PostgresEnum b); are = more (a_text p.0.1) (more (a_text p.1.0.1) (more a_number (more (a_text p.1.1.1.0.1) none))); fits = p.1.1.1.1.0.1; stands = refl; place = λ s at. refl; field = refl })
cut_kind (suc (suc (suc (suc (suc (suc zero)))))) b k p =
    cut (record { fields = T ∷ T ∷ N ∷ []; before = string b.0 ∷ string b.1.0 ∷ plain Number b.1.1.0 ∷ []; text = b.1.1.1.0; after = drop 4 (leaves OrdOrHash b); are = more (a_text p.0.1) (more (a_text p.1.0.1) (more a_number none)); fits = p.1.1.1.0.1; stands = refl; place = λ s at. refl; field = refl })
cut_kind (suc (suc (suc (suc (suc (suc (suc zero))))))) b k p =
    cut (record { fields = T ∷ T ∷ N ∷ []; before = string b.0 ∷ string b.1.0 ∷ plain Number b.1.1.0 ∷ []; text = b.1.1.1.0; after = drop 4 (leaves OrdOrHash b); are = more (a_text p.0.1) (more (a_text p.1.0.1) (more a_number none)); fits = p.1.1.1.0.1; stands = refl; place = λ s at. refl; field = refl })
cut_kind (suc (suc (suc (suc (suc (suc (suc (suc zero)))))))) b k p =
    cut (record { fields = []; before = []; text = b.0; after = drop 1 (leaves Aggregate b); are = none; fits = p.0.1; stands = refl; place = λ s at. refl; field = refl })
cut_kind (suc (suc (suc (suc (suc (suc (suc (suc (suc zero))))))))) b k p =
    cut (record
    { fields = T ∷ T ∷ N ∷ T ∷ []; before = string b.0 ∷ string b.1.0 ∷ plain Number b.1.1.0 ∷ string b.1.1.1.0 ∷ []; text = b.1.1.1.1.0; after = drop 5 (leaves Trigger b); are = more (a_text p.0.1) (more (a_text p.1.0.1) (more a_number (more (a_text p.1.1.1.0.1) none))); fits = p.1.1.1.1.0.1; stands = refl; place = λ s at. refl; field = refl })
cut_kind (suc (suc (suc (suc (suc (suc (suc (suc (suc (suc n)))))))))) b k p = absurd (kind_above (suc (suc (suc (suc (suc (suc (suc (suc (suc (suc n)))))))))) (omega arith) k)

-- The text after some leaves
text_after : (xs : List Leaf) (t : List ℕ) (ls : List Leaf) → get_or (map text_of (xs ++ (string t ∷ ls))) (length xs) [] ≡ t
text_after [] t ls = refl
text_after (x ∷ xs) t ls = text_after xs t ls

path_cut : (kind : ℕ) (ls : List Leaf) (c : Cut kind ls) → full_path (plain Kind kind ∷ ls) ≡ c.text ∷ []
path_cut kind ls c = rw (c.field, c.stands) (ap (λ (t : List ℕ). t ∷ []) (text_after c.before c.text c.after))

pub path_text : PathIsText
unfolding Entity
path_text v p n = go (cut_kind v.0 v.2 p.2 p.3)
  where
    go : Cutting v.0 (leaves (follows entity_kinds v.0) v.2) → PathText (plain Kind v.0 ∷ leaves (follows entity_kinds v.0) v.2)
    go (whole e) = absurd (n e)
    go (cut c) = record {
      before = plain Kind v.0 ∷ c.before;
      text = c.text;
      after = c.after;
      stands = rw (← c.stands);
      field = sym c.field;
      path = path_cut v.0 _ c;
    }

-- The full_path stands where it is looked for
found_cut : (s : List ℕ) (at kind : ℕ) (ls : List Leaf) (r : List ℕ) → length s ≤ limit → (c : Cut kind ls) → drop at s ≡ bytes_of (plain Kind kind ∷ ls) ++ r → Found s at ((kind ∷ c.text) ∷ [])
unfolding path_at
found_cut s at kind ls r h c e =
    let (b, k) = first_byte s at kind _ e in
    let end : ℕ = after_fields s c.fields (at + 1) in
    let q : path_place s at ≡ Some end = place_in s at kind k ∙ c.place s (at + 1) in
    let x : List ℕ = leaf_bytes (string c.text) in
    let y : List ℕ = bytes_of c.after in
    let g : bytes_of ls ++ r ≡ bytes_of c.before ++ (x ++ (y ++ r)) = rw (c.stands, bytes_of_append c.before (string c.text ∷ c.after)) (append_assoc (bytes_of c.before) (x ++ y) r ∙ ap (λ (z : List ℕ). bytes_of c.before ++ z) (append_assoc x y r)) in
    let (i, u) = text_stands s end c.text (y ++ r) c.fits (after_fields_lem s (at + 1) (x ++ (y ++ r)) c.are (rest_after s at (kind ∷ []) _ e ∙ g)) in
    record {
      inside = record { small = h; begins = b; path = rw q i };
      path = rw (k, q) (ap (λ (z : List ℕ). (kind ∷ z) ∷ []) u);
    }

found_cutting : (s : List ℕ) (at kind : ℕ) (ls : List Leaf) (r : List ℕ) → length s ≤ limit → Cutting kind ls → drop at s ≡ bytes_of (plain Kind kind ∷ ls) ++ r → Found s at (kind_and_path (plain Kind kind ∷ ls))
found_cutting s at kind ls r h (whole k) e = rw k (found_none s at 1 _ h (rw k at e) refl)
found_cutting s at kind ls r h (cut c) e = rw (path_cut kind ls c) (found_cut s at kind ls r h c e)

found_entity : (v : Value Entity) → Proper Entity v → (s : List ℕ) (at : ℕ) (r : List ℕ) → length s ≤ limit → drop at s ≡ bytes Entity v ++ r → Found s at (kind_and_path (leaves Entity v))
unfolding Entity
found_entity v p s at r h e = found_cutting s at v.0 _ r h (cut_kind v.0 v.2 p.2 p.3) e

-- The kind and the full_path of an item, if it has one
abbrev pub item_path : Item → List (List ℕ)
item_path sentinel = []
item_path (entity v) = kind_and_path (leaves Entity v)

pub found_item : (i : Item) → ProperItem i → (s : List ℕ) (at : ℕ) (r : List ℕ) → length s ≤ limit → drop at s ≡ payload i ++ r → Found s at (item_path i)
found_item sentinel p s at r h e = found_none s at 0 _ h e refl
found_item (entity v) p s at r h e = found_entity v p.0 s at r h e
