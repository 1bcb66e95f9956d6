-- A section is accepted exactly if a derivation derives it, with the derivation's entities.
use Prim.Native.Nat.{ℕ, ◌+◌, ◌-◌, ◌≤◌, ◌<◌}
use native.Mathlib.Omega.{arith}
use mathlib.Core.Bool.{false}
use mathlib.Core.List.{List, [], ◌∷◌, ◌++◌, append_assoc, append-nil, map}
use mathlib.Core.Path.{◌≡◌, refl, sym, ap, ◌∙◌}
use lib.Dec.{leb}
use lib.ListN.{length, take, drop, replicate, length-append, length-drop, length-take}
use lib.Seq.{take-append_seam, length-take-le, take-add, drop_at, get_or-take}
use borrow.Author.Tests.{leb-true, le-leb}
use Rattle.layout.specs.Written.{four, bytes}
use Rattle.layout.specs.Entities.{Entity}
use Rattle.layout.specs.Reading.{Outcome, ok, read}
use Rattle.layout.specs.Answers.{limit}
use Rattle.layout.specs.Theorems.{Bytes}
use Rattle.layout.proofs.Walk.{All, given, refused, all_bind, all_need, all_ok, all_when}
use Rattle.layout.proofs.BadReads.{not_true}
use Rattle.layout.proofs.InBytes.{rest_after, read_complete, read_sound}
use Rattle.framing.specs.Framing.{framing}
use Rattle.framing.specs.Entries.{framed, Framable, sentinel_bytes}
use Rattle.framing.proofs.Framing.{part_at, parts_of, all_cond, framing_complete, framing_sound}
use Rattle.section.specs.Derivation.{Item, sentinel, entity, Derivation, payload, entries, ProperItem, ProperItems, Placed, placed, entities_of}
use Rattle.raw_bytes.specs.Bytes.{same}
use Rattle.raw_bytes.proofs.Compared.{same_sound}
use Rattle.section.specs.Section.{read_entity, read_payload, read_payloads, read_section}
use Rattle.section.specs.Demand3.{Good}
use Rattle.section.specs.Theorems.{SectionExact}
use Rattle.section.proofs.Derivation.{payload_some, payload_small, kind_some, append_parts}

module _ {S A : Type 0} where
  pub all_map : {P Q : A → S → Type 0} {m : Outcome S A} → All P m → ((a : A) (st : S) → P a st → Q a st) → All Q m
  all_map (given {a} {st} h) k = given (k a st h)
  all_map refused k = refused

-- The part of a payload at a place has its bytes
pub part_there : (s : List ℕ) (a : ℕ) (x r : List ℕ) → 1 ≤ length x → drop a s ≡ x ++ r → drop a (take (a + length x) s) ≡ x
part_there s a x r h e =
    let k : a ≤ length s = omega (arith, ap length e, length-append x r, length-drop a s) in
    rw (take-add a (length x) s, drop_at (take a s) _ a (length-take-le a s k), e) (take-append_seam x r)

pub take_length_there : (s : List ℕ) (a : ℕ) (x r : List ℕ) → 1 ≤ length x → drop a s ≡ x ++ r → length (take (a + length x) s) ≡ a + length x
take_length_there s a x r h e = length-take-le (a + length x) s (omega (arith, ap length e, length-append x r, length-drop a s))

pub bytes_take : (n : ℕ) (s : List ℕ) → Bytes s → Bytes (take n s)
bytes_take n s u i h =
    let l = length-take n s in
    rw (get_or-take n s i 0 (omega arith)) (u i (omega arith))

-- A payload is an item
pub record IsItem (a : ℕ) (x : List ℕ) (es : List Placed) : Type 0 where
  pub item : Item
  pub proper : ProperItem item
  pub is : x ≡ payload item
  pub found : (at : ℕ) → at + 4 ≡ a → es ≡ placed at (item ∷ [])

pub payload_sound : (s : List ℕ) → Bytes s → (a : ℕ) (x r : List ℕ) → 1 ≤ length x → length x < 4294967296 → drop a s ≡ x ++ r → All (λ es end. IsItem a x es) (read_payload s (record { begin = a; end = a + length x }))
unfolding read_payload read_entity
payload_sound s u a x r h h₂ e =
    let t : drop a (take (a + length x) s) ≡ x = part_there s a x r h e in
    all_cond (same (drop a (take (a + length x) s)) sentinel_bytes) _ _
    (λ q. given (record { item = sentinel; proper = tt; is = sym t ∙ same_sound _ _ q; found = λ at k. refl }))
    λ q.
    all_bind (read Entity (take (a + length x) s) a) _ (all_when _ (read_sound Entity (take (a + length x) s) (bytes_take (a + length x) s u) a)) λ ls end p.
    all_need (leb (a + length x) end) 12 end _ λ w.
    let (v, proper, same-leaves, stand) = p in
    let d : x ≡ bytes Entity v ++ drop end (take (a + length x) s) = sym t ∙ stand.0 in
    let n : length x ≡ length (bytes Entity v) = omega (arith, stand.1, leb-true (a + length x) end w, ap length d, length-append (bytes Entity v) (drop end (take (a + length x) s))) in
    let b : x ≡ bytes Entity v = (append_parts x (bytes Entity v) [] (drop end (take (a + length x) s)) n (append-nil x ∙ d)).0 in
    given (record { item = entity v; proper = (proper, rw (← n) h₂); is = b; found = λ at k. rw (same-leaves, k) })

pub payload_complete : (s : List ℕ) (at : ℕ) (i : Item) (r : List ℕ) → ProperItem i → drop (at + 4) s ≡ payload i ++ r → read_payload s (part_at at (length (payload i))) ≡ ok (placed at (i ∷ [])) (at + 4 + length (payload i))
unfolding read_payload read_entity
payload_complete s at sentinel r p e = rw (part_there s (at + 4) sentinel_bytes r (omega arith) e)
payload_complete s at (entity v) r p e =
    let x : List ℕ = bytes Entity v in
    let t : drop (at + 4) (take (at + 4 + length x) s) ≡ x = part_there s (at + 4) x r (payload_some (entity v)) e in
    let f : same x sentinel_bytes ≡ false = not_true _ (λ q. kind_some v p.0 _ (same_sound x sentinel_bytes q)) in
    rw (t, f, read_complete Entity v (take (at + 4 + length x) s) (at + 4) [] p.0 (t ∙ sym (append-nil x)), le-leb (at + 4 + length x) (at + 4 + length x) (omega arith))

-- Payloads are items
pub record AreItems (at : ℕ) (pays : List (List ℕ)) (es : List Placed) : Type 0 where
  pub all : List Item
  pub proper : ProperItems all
  pub are : pays ≡ map payload all
  pub found : es ≡ placed at all

placed_more : (at : ℕ) (i : Item) (is : List Item) → placed at (i ∷ []) ++ placed (at + 4 + length (payload i)) is ≡ placed at (i ∷ is)
placed_more at sentinel is = refl
placed_more at (entity v) is = refl

pub payloads_sound : (s : List ℕ) → Bytes s → (end at : ℕ) (pays : List (List ℕ)) (r : List ℕ) → Framable pays → drop at s ≡ framed pays ++ r → All (λ es e. AreItems at pays es) (read_payloads s end (parts_of at pays))
unfolding read_payloads
payloads_sound s u end at [] r f e = given (record { all = []; proper = tt; are = refl; found = refl })
payloads_sound s u end at (x ∷ pays) r f e =
    let g : drop at s ≡ four (length x) ++ (x ++ (framed pays ++ r)) = simp append_assoc at e in
    let d : drop (at + 4) s ≡ x ++ (framed pays ++ r) = rest_after s at (four (length x)) _ g in
    all_bind (read_payload s (part_at at (length x))) _ (payload_sound s u (at + 4) x _ f.0 f.1 d) λ xs m p.
    all_bind (read_payloads s end (parts_of (at + 4 + length x) pays)) _ (payloads_sound s u end (at + 4 + length x) pays r f.2 (rest_after s (at + 4) x _ d)) λ ys e₂ q.
    let k : placed (at + 4 + length x) q.all ≡ placed (at + 4 + length (payload p.item)) q.all = ap (λ (y : List ℕ). placed (at + 4 + length y) q.all) p.is in
    given (record { all = p.item ∷ q.all; proper = (p.proper, q.proper); are = rw (p.is, q.are); found = rw (p.found at refl, q.found, k) (placed_more at p.item q.all) })

payloads_complete : (s : List ℕ) (end at : ℕ) (is : List Item) (r : List ℕ) → ProperItems is → drop at s ≡ entries is ++ r → read_payloads s end (parts_of at (map payload is)) ≡ ok (placed at is) end
unfolding read_payloads
payloads_complete s end at [] r p e = refl
payloads_complete s end at (i ∷ is) r p e =
    let x : List ℕ = payload i in
    let g : drop at s ≡ four (length x) ++ (x ++ (entries is ++ r)) = simp append_assoc at e in
    let d : drop (at + 4) s ≡ x ++ (entries is ++ r) = rest_after s at (four (length x)) _ g in
    rw (payload_complete s at i _ p.0 d, payloads_complete s end (at + 4 + length x) is r p.1 (rest_after s (at + 4) x _ d), placed_more at i is)

pub entries_framed : (is : List Item) → entries is ≡ framed (map payload is)
entries_framed [] = refl
entries_framed (i ∷ is) = rw (entries_framed is)

items_framable : (is : List Item) → ProperItems is → Framable (map payload is)
items_framable [] p = tt
items_framable (i ∷ is) p = (payload_some i, payload_small i p.0, items_framable is p.1)

-- What a derivation derives, up to the limit, is accepted, and its entities are found
pub section_complete : (s : List ℕ) (d : Derivation) → Good s d → read_section s ≡ ok (entities_of d) (length (entries d.items))
unfolding read_section
section_complete s d g =
    rw (le-leb (length s) limit g.small, framing_complete s (map payload d.items) d.padding (items_framable d.items g.by.proper) (sym g.by.derives ∙ rw (entries_framed d.items)), ← entries_framed d.items)
    (payloads_complete s _ 0 d.items (replicate d.padding 0) g.by.proper (sym g.by.derives))

-- What is accepted has a derivation, whose entities are found
pub section_sound : (s : List ℕ) → Bytes s → All (λ es end. (d : Derivation) × Good s d × (es ≡ entities_of d)) (read_section s)
unfolding read_section
section_sound s u =
    all_need (leb (length s) limit) 1 0 _ λ h.
    all_bind (framing s) _ (framing_sound s u) λ ps end f.
    rw f.parts
    (all_map (payloads_sound s u end 0 f.payloads (drop end s) f.span.framable f.span.there) λ es e q. (
      record { items = q.all; padding = length s - end },
      record { small = leb-true (length s) limit h; by = record { proper = q.proper; derives = sym (f.span.there ∙ rw (f.padding, q.are, ← entries_framed q.all)) } },
      q.found,
    ))

pub section_exact : SectionExact
section_exact s u es = ((λ h. all_ok (section_sound s u) h.1), λ h. (length (entries h.0.items), rw h.2 (section_complete s h.0 h.1)))
