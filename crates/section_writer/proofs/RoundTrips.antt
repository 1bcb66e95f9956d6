-- Reading the section that was written, and writing the section that was read.
use Prim.Native.Nat.{ℕ, suc, ◌+◌, ◌-◌, ◌*◌, ◌≤◌}
use native.Mathlib.Omega.{arith}
use mathlib.Core.Bool.{Bool, true, false, cond}
use mathlib.Core.List.{List, [], ◌∷◌, ◌++◌, map, append_assoc, append-nil}
use mathlib.Core.Path.{◌≡◌, refl, sym, ap, subst, ◌∙◌}
use lib.Dec.{leb}
use lib.ListN.{length, take, drop, replicate, length-append}
use lib.Seq.{take-append_seam}
use borrow.Author.Tests.{le-leb}
use Rattle.layout.specs.Layout.{Leaf, Value, leaves, Fits}
use Rattle.layout.specs.Written.{four, bytes, bytes_of, row_width, rows_from}
use Rattle.layout.specs.Entities.{Entity}
use Rattle.layout.specs.Reading.{ok}
use Rattle.layout.specs.Answers.{Answer, accepted, Result, Given, whole_rows, acceptance, refusal}
use Rattle.layout.proofs.InBytes.{rest_after}
use Rattle.layout.proofs.Rows.{rows_length}
use Rattle.layout.proofs.Each.{Each, each_of, each_join}
use Rattle.layout.proofs.Walk.{meets_map}
use Rattle.section.specs.Derivation.{Item, sentinel, entity, Derivation, payload, entry, entries, placed, total_leaves, rows_of, given_of, entities_of, sentinels, ProperItems}
use Rattle.section.specs.Section.{reading}
use Rattle.section.specs.Demand3.{Good}
use Rattle.section.proofs.Section.{section_complete}
use Rattle.writing.specs.Refusals.{Writable}
use Rattle.writing.specs.Theorems.{ReadsBack}
use Rattle.writing.proofs.Along.{along_join}
use Rattle.writing.proofs.Spelled.{whole_rows_lem}
use Rattle.writing.proofs.RoundTrips.{Holds, HoldAll, rows_hold, fits_sized, hold_spells, hold_good, returned}
use Rattle.section_writer.specs.Form.{section_of, section_bytes, section_leaves, EachAllowed, section}
use Rattle.section_writer.specs.Theorems.{entity_values, ReadSection, SectionRewritten, SectionBack}
use Rattle.section_writer.proofs.Exact.{section_written, entities_unique}
use Rattle.section_writer.proofs.Passes.{proper_section}

-- The leaves of the entities among items
abbrev leaves_in : List Item → List Leaf
leaves_in is = section_leaves (entity_values is)

-- The places of entities: their number, their leaves and their rows
placed_number : (is : List Item) (at : ℕ) → length (placed at is) ≡ length (entity_values is)
placed_number [] at = refl
placed_number (sentinel ∷ is) at = placed_number is (at + 4 + length (payload sentinel))
placed_number (entity v ∷ is) at = ap suc (placed_number is (at + 4 + length (bytes Entity v)))

placed_leaves : (is : List Item) (at : ℕ) → total_leaves (placed at is) ≡ length (leaves_in is)
placed_leaves [] at = refl
placed_leaves (sentinel ∷ is) at = placed_leaves is (at + 4 + length (payload sentinel))
placed_leaves (entity v ∷ is) at = omega (arith, placed_leaves is (at + 4 + length (bytes Entity v)), length-append (leaves Entity v) (leaves_in is))

placed_length : (is : List Item) (at : ℕ) → length (rows_of (placed at is)) ≡ row_width * length (leaves_in is)
placed_length [] at = refl
placed_length (sentinel ∷ is) at = placed_length is (at + 4 + length (payload sentinel))
placed_length (entity v ∷ is) at =
    let next = at + 4 + length (bytes Entity v) in
    omega (arith, length-append (rows_from (at + 4) (leaves Entity v)) (rows_of (placed next is)), rows_length (at + 4) (leaves Entity v), placed_length is next, length-append (leaves Entity v) (leaves_in is))

-- The rows of entities hold their leaves, if the entries of all items are there
placed_hold : (is : List Item) (before after s : List ℕ) (i at : ℕ) (rest : List ℕ) → length before ≡ row_width * i → drop at s ≡ entries is ++ rest
    → HoldAll (before ++ (rows_of (placed at is) ++ after)) s i (leaves_in is)
placed_hold [] before after s i at rest l e = tt
placed_hold (sentinel ∷ is) before after s i at rest l e =
    let f : drop at s ≡ entry sentinel ++ (entries is ++ rest) = e ∙ append_assoc (entry sentinel) (entries is) rest in
    let k : at + length (entry sentinel) ≡ at + 4 + length (payload sentinel) = omega arith in
    placed_hold is before after s i (at + 4 + length (payload sentinel)) rest l (ap (λ (m : ℕ). drop m s) (sym k) ∙ rest_after s at (entry sentinel) (entries is ++ rest) f)
placed_hold (entity v ∷ is) before after s i at rest l e =
    let ls = leaves Entity v in
    let b : List ℕ = bytes_of ls in
    let next = at + 4 + length b in
    let x : List ℕ = rows_from (at + 4) ls in
    let y : List ℕ = rows_of (placed next is) in
    let f : drop at s ≡ four (length b) ++ (b ++ (entries is ++ rest)) = e ∙ append_assoc (four (length b) ++ b) (entries is) rest ∙ append_assoc (four (length b)) b (entries is ++ rest) in
    let g : drop (at + 4) s ≡ b ++ (entries is ++ rest) = rest_after s at (four (length b)) (b ++ (entries is ++ rest)) f in
    let p : before ++ (x ++ (y ++ after)) ≡ before ++ ((x ++ y) ++ after) = ap (λ (z : List ℕ). before ++ z) (sym (append_assoc x y after)) in
    let q : (before ++ x) ++ (y ++ after) ≡ before ++ ((x ++ y) ++ after) = append_assoc before x (y ++ after) ∙ p in
    let m : length (before ++ x) ≡ row_width * (i + length ls) = omega (arith, length-append before x, rows_length (at + 4) ls) in
    along_join (Holds (before ++ ((x ++ y) ++ after)) s) i (i + length ls) ls (leaves_in is) refl
    (subst (λ (z : List ℕ). HoldAll z s i ls) p (rows_hold ls before (y ++ after) s i (at + 4) (entries is ++ rest) l g))
    (subst (λ (z : List ℕ). HoldAll z s (i + length ls) (leaves_in is)) q (placed_hold is (before ++ x) after s (i + length ls) next rest m (rest_after s (at + 4) b (entries is ++ rest) g)))

-- The entities among proper items
values_allowed : (is : List Item) → ProperItems is → EachAllowed (entity_values is)
values_allowed [] p = tt
values_allowed (sentinel ∷ is) p = values_allowed is p.1
values_allowed (entity v ∷ is) p = (meets_map fits_sized Entity v p.0.0, values_allowed is p.1)

values_fit : (is : List Item) → ProperItems is → Each Fits (leaves_in is)
values_fit [] p = tt
values_fit (sentinel ∷ is) p = values_fit is p.1
values_fit (entity v ∷ is) p = each_join Fits (leaves Entity v) (leaves_in is) (each_of Fits Entity v p.0.0) (values_fit is p.1)

values_shorter : (is : List Item) → length (section_bytes (entity_values is)) ≤ length (entries is)
values_shorter [] = omega arith
values_shorter (sentinel ∷ is) = omega (arith, values_shorter is, length-append (entry sentinel) (entries is))
values_shorter (entity v ∷ is) = omega (arith, values_shorter is, length-append (entry (entity v)) (entries is), length-append (entry (entity v)) (section_bytes (entity_values is)))

-- The entities of a section can be written from its rows
rows_writable : (s : List ℕ) (d : Derivation) → Good s d → 1 ≤ length (entity_values d.items) → Writable section (rows_of (entities_of d)) s (entity_values d.items)
rows_writable s d g some =
    let is = d.items in
    let found = rows_of (entities_of d) in
    let hold : HoldAll found s 0 (leaves_in is) =
    subst (λ (t : List ℕ). HoldAll t s 0 (leaves_in is)) (append-nil found) (placed_hold is [] [] s 0 0 (replicate d.padding 0) (omega arith) (sym g.by.derives)) in
    record {
      spells = hold_spells section found s (entity_values is) (placed_length is 0) hold (some, values_allowed is g.by.proper);
      texts = hold_good section found s (entity_values is) (placed_length is 0) hold (values_fit is g.by.proper);
      small = omega (arith, values_shorter is, ap length g.by.derives, length-append (entries is) (replicate d.padding 0), g.small);
    }

not_thirteen : (table : List ℕ) (n m : ℕ) → (refusal 13 0 table).answer ≡ accepted n m → ⊥
not_thirteen table n m z = let w : ◌≡◌ {A = ℕ} 13 0 = ap (λ (a : Answer). a.number) z in omega arith

accepted_rows : (g : Given) (table : List ℕ) (n m : ℕ) (b : Bool) → (cond b (acceptance g table) (refusal 13 0 table)).answer ≡ accepted n m → (b ≡ true) × (g.leaf_count ≡ m)
accepted_rows g table n m true e = (refl, ap (λ (a : Answer). a.rows) e)
accepted_rows g table n m false e = absurd (not_thirteen table n m e)

-- The table of a section that was accepted
read_table : (s : List ℕ) (d : Derivation) → Good s d → (table : List ℕ) (n m : ℕ) → (reading s table).answer ≡ accepted n m
    → (total_leaves (entities_of d) ≡ m) × ((reading s table).table ≡ rows_of (entities_of d) ++ replicate (length table - row_width * total_leaves (entities_of d)) 0)
unfolding reading
read_table s d g table n m a =
    let q = accepted_rows (given_of (entities_of d)) table n m (leb (total_leaves (entities_of d)) (whole_rows table)) (rw (section_complete s d g) at a) in
    (q.1, rw (section_complete s d g, q.0))

pub section_rewritten : SectionRewritten
section_rewritten s d g some table r n m e a size h =
    let is = d.items in
    let b = section_bytes (entity_values is) in
    let (c, t) = read_table s d g table n m (sym (ap (λ (y : Result). y.answer) e) ∙ a) in
    let l : row_width * m ≡ length (rows_of (entities_of d)) = omega (arith, placed_length is 0, placed_leaves is 0) in
    let z : List ℕ = replicate (length table - row_width * total_leaves (entities_of d)) 0 in
    let q : take (row_width * m) r.table ≡ rows_of (entities_of d) =
    ap (λ (y : Result). take (row_width * m) y.table) e ∙ ap (take (row_width * m)) t ∙ rw l (take-append_seam (rows_of (entities_of d)) z) in
    rw q ((section_written (rows_of (entities_of d)) s size b (length b)).1 (entity_values is, rows_writable s d g some, refl, refl, h))

-- Without a sentinel the entities are all items
values_same : (is : List Item) → sentinels is ≡ 0 → map entity (entity_values is) ≡ is
values_same [] h = refl
values_same (sentinel ∷ is) h = absurd (omega arith)
values_same (entity v ∷ is) h = ap (λ (js : List Item). entity v ∷ js) (values_same is h)

values_number : (is : List Item) → sentinels is ≡ 0 → length (entity_values is) ≡ length is
values_number [] h = refl
values_number (sentinel ∷ is) h = absurd (omega arith)
values_number (entity v ∷ is) h = ap suc (values_number is h)

pub section_back : SectionBack
section_back s d g some none bare table r n m e a size h =
    let is = d.items in
    let f : entries is ≡ s = sym (ap (λ (k : ℕ). entries is ++ replicate k 0) bare ∙ append-nil (entries is)) ∙ g.by.derives in
    let q : section_bytes (entity_values is) ≡ s = ap entries (values_same is none) ∙ f in
    section_rewritten s d g (omega (arith, values_number is none)) table r n m e a size (omega (arith, ap length q)) ∙ ap (λ (b : List ℕ). ok b (length b)) q

-- The entities of a section that is written
values_map : (vs : List (Value Entity)) → entity_values (map entity vs) ≡ vs
values_map [] = refl
values_map (v ∷ vs) = ap (λ (us : List (Value Entity)). v ∷ us) (values_map vs)

read_back : (rows text : List ℕ) (vs : List (Value Entity)) → Writable section rows text vs → (table : List ℕ) → whole_rows rows ≤ whole_rows table
    → ReadsBack rows text (section_bytes vs) (length vs) (reading (section_bytes vs) table)
unfolding reading
read_back rows text vs w table room =
    let is = map entity vs in
    let s = section_bytes vs in
    let d = section_of vs in
    let e = values_map vs in
    let x : total_leaves (placed 0 is) ≡ length (section_leaves vs) = placed_leaves is 0 ∙ ap (λ (us : List (Value Entity)). length (section_leaves us)) e in
    let y : length (rows_of (placed 0 is)) ≡ row_width * length (section_leaves vs) = placed_length is 0 ∙ ap (λ (us : List (Value Entity)). row_width * length (section_leaves us)) e in
    let z : length (placed 0 is) ≡ length vs = placed_number is 0 ∙ ap length e in
    let m = length table - row_width * total_leaves (placed 0 is) in
    let hold : HoldAll (rows_of (placed 0 is) ++ replicate m 0) s 0 (section_leaves vs) =
    subst (λ (us : List (Value Entity)). HoldAll (rows_of (placed 0 is) ++ replicate m 0) s 0 (section_leaves us)) e (placed_hold is [] (replicate m 0) s 0 0 [] (omega arith) (sym (append-nil s))) in
    rw (section_complete s d (proper_section rows text vs w), le-leb (total_leaves (placed 0 is)) (whole_rows table) (omega (arith, whole_rows_lem rows (length (section_leaves vs)) w.spells.whole)))
    (returned section rows text vs w.spells w.texts s (rows_of (placed 0 is)) m (length vs) y hold _ (rw (x, z)) refl)

pub read_section_lem : ReadSection
read_section_lem rows text size b n e vs s table room =
    let (us, w, x, y, fits) = (section_written rows text size b n).0 e in
    let q : us ≡ vs = entities_unique rows text us vs w.spells s in
    rw (x, ← q) (read_back rows text us w table room)
