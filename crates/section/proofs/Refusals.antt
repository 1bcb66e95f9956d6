-- The reading refuses a section exactly under the condition of its refusal.
use Prim.Native.Nat.{ℕ, ◌+◌, ◌-◌, ◌≤◌}
use native.Mathlib.Nat.{add-zero, zero-add}
use native.Mathlib.Omega.{arith}
use mathlib.Core.Bool.{true, false}
use mathlib.Core.List.{List, [], ◌∷◌, ◌++◌, map, append_assoc}
use mathlib.Core.Path.{◌≡◌, refl, ap, ◌∙◌}
use lib.Dec.{leb}
use lib.ListN.{length, take, drop, replicate, length-append}
use borrow.Author.Tests.{leb-true, leb-false, le-leb, lt-leb}
use Rattle.layout.specs.Written.{four}
use Rattle.layout.specs.BadReads.{BadPayload}
use Rattle.layout.specs.Entities.{Entity}
use Rattle.layout.specs.Reading.{refuse}
use Rattle.layout.specs.Answers.{limit}
use Rattle.layout.specs.Theorems.{Bytes}
use Rattle.layout.proofs.Walk.{Fails, good, fails_bind, fails_need, fails_map, fails_refuse}
use Rattle.layout.proofs.BadReads.{not_true, payload_bad, payload_refuses}
use Rattle.layout.proofs.InBytes.{rest_after}
use Rattle.raw_bytes.specs.Bytes.{same}
use Rattle.raw_bytes.proofs.Compared.{same_sound}
use Rattle.framing.specs.Framing.{framing}
use Rattle.framing.specs.Entries.{framed, Framable, sentinel_bytes}
use Rattle.framing.specs.Refusals.{too_long, bad_boundary}
use Rattle.framing.proofs.Framing.{part_at, parts_of, framing_complete, framing_sound}
use Rattle.framing.proofs.Refusals.{fails_cond, framing_bad, framing_refuses}
use Rattle.section.specs.Derivation.{Item, Placed, payload, entries, ProperItems}
use Rattle.section.specs.Section.{read_entity, read_payload, read_payloads, read_section}
use Rattle.section.specs.Refusals.{SectionRefusal, bad_framing, bad_payload}
use Rattle.section.specs.Theorems.{RefusalExact, RefusalUnique}
use Rattle.section.proofs.Derivation.{payload_some, payload_small}
use Rattle.section.proofs.Section.{IsItem, part_there, take_length_there, bytes_take, payload_sound, payload_complete, payloads_sound, entries_framed}

-- A payload
item_bad : (s : List ℕ) → Bytes s → (a : ℕ) (x r : List ℕ) → 1 ≤ length x → drop a s ≡ x ++ r → Fails (λ n p. (x ≡ sentinel_bytes → ⊥) × BadPayload (take (a + length x) s) Entity a n p) (read_payload s (record { begin = a; end = a + length x }))
unfolding read_payload read_entity
item_bad s u a x r h e =
    fails_cond (same (drop a (take (a + length x) s)) sentinel_bytes) _ _ good λ q.
    fails_map (payload_bad (take (a + length x) s) _ (a + length x) (take_length_there s a x r h e) (bytes_take (a + length x) s u) Entity a) λ n p b.
    (λ w. not_sentinel (rw (part_there s a x r h e, w) at q), b)
  where
    not_sentinel : true ≡ false → ⊥
    not_sentinel w = let z : ◌≡◌ {A = ℕ} 0 1 = cc in omega arith

-- The first bad payload of entries, the first of which begins at a place
record BadAmong (s : List ℕ) (at : ℕ) (pays : List (List ℕ)) (n p : ℕ) : Type 0 where
  before : List Item
  pay : List ℕ
  after : List (List ℕ)
  proper : ProperItems before
  are : pays ≡ map payload before ++ (pay ∷ after)
  other : pay ≡ sentinel_bytes → ⊥
  is : BadPayload (take (at + length (entries before) + 4 + length pay) s) Entity (at + length (entries before) + 4) n p

first_bad : (s : List ℕ) (at : ℕ) (x : List ℕ) (pays : List (List ℕ)) (n p : ℕ) → (x ≡ sentinel_bytes → ⊥) × BadPayload (take (at + 4 + length x) s) Entity (at + 4) n p → BadAmong s at (x ∷ pays) n p
first_bad s at x pays n p b = record { before = []; pay = x; after = pays; proper = tt; are = refl; other = b.0; is = rw add-zero b.1 }

later_bad : (s : List ℕ) (at : ℕ) (x : List ℕ) (pays : List (List ℕ)) {n p : ℕ} {es : List Placed} → IsItem (at + 4) x es → BadAmong s (at + 4 + length x) pays n p → BadAmong s at (x ∷ pays) n p
later_bad s at x pays {n} {p} q b =
    let e : at + length (entries (q.item ∷ b.before)) ≡ at + 4 + length x + length (entries b.before) = omega (arith, length-append (payload q.item) (entries b.before), ap length q.is) in
    record {
      before = q.item ∷ b.before;
      pay = b.pay;
      after = b.after;
      proper = (q.proper, b.proper);
      are = rw (q.is, b.are);
      other = b.other;
      is = rw e b.is;
    }

payloads_bad : (s : List ℕ) → Bytes s → (end at : ℕ) (pays : List (List ℕ)) (r : List ℕ) → Framable pays → drop at s ≡ framed pays ++ r → Fails (BadAmong s at pays) (read_payloads s end (parts_of at pays))
unfolding read_payloads
payloads_bad s u end at [] r f e = good
payloads_bad s u end at (x ∷ pays) r f e =
    let g : drop at s ≡ four (length x) ++ (x ++ (framed pays ++ r)) = simp append_assoc at e in
    let d : drop (at + 4) s ≡ x ++ (framed pays ++ r) = rest_after s at (four (length x)) _ g in
    let d₂ : drop (at + 4 + length x) s ≡ framed pays ++ r = rest_after s (at + 4) x _ d in
    fails_bind (read_payload s (part_at at (length x))) _ (payload_sound s u (at + 4) x _ f.0 f.1 d)
    (fails_map (item_bad s u (at + 4) x _ f.0 d) λ n p b. first_bad s at x pays n p b)
    λ xs m q.
    fails_bind (read_payloads s end (parts_of (at + 4 + length x) pays)) _ (payloads_sound s u end (at + 4 + length x) pays r f.2 d₂)
    (fails_map (payloads_bad s u end (at + 4 + length x) pays r f.2 d₂) λ n p b. later_bad s at x pays q b)
    λ ys e₂ q₂. good

framed_append : (xs ys : List (List ℕ)) → framed (xs ++ ys) ≡ framed xs ++ framed ys
framed_append [] ys = refl
framed_append (x ∷ xs) ys = rw (framed_append xs ys, append_assoc (four (length x) ++ x))

framed_items : (is : List Item) (ys : List (List ℕ)) → framed (map payload is ++ ys) ≡ entries is ++ framed ys
framed_items is ys = framed_append (map payload is) ys ∙ rw (← entries_framed is)

framable_after : (xs ys : List (List ℕ)) → Framable (xs ++ ys) → Framable ys
framable_after [] ys f = f
framable_after (x ∷ xs) ys f = framable_after xs ys f.2

framable_join : (is : List Item) (ys : List (List ℕ)) → ProperItems is → Framable ys → Framable (map payload is ++ ys)
framable_join [] ys p f = f
framable_join (i ∷ is) ys p f = (payload_some i, payload_small i p.0, framable_join is ys p.1 f)

-- The reading refuses only under the condition
section_bad : (s : List ℕ) → Bytes s → Fails (SectionRefusal s) (read_section s)
unfolding read_section
section_bad s u =
    fails_need (leb (length s) limit) 1 0 _ (λ e. bad_framing (too_long (leb-false _ _ e))) λ h.
    fails_bind (framing s) _ (framing_sound s u) (fails_map (framing_bad s u) λ n p r. bad_framing (bad_boundary (leb-true _ _ h) r.0 r.1))
    λ ps end f.
    rw f.parts
    (fails_map (payloads_bad s u end 0 f.payloads (drop end s) f.span.framable f.span.there) λ n p b.
    bad_payload (leb-true _ _ h)
    (record {
      before = b.before;
      pay = b.pay;
      after = b.after;
      padding = length s - end;
      proper = b.proper;
      framable = framable_after (map payload b.before) (b.pay ∷ b.after) (rw b.are at f.span.framable);
      there = f.span.there ∙ rw (ap framed b.are ∙ framed_items b.before (b.pay ∷ b.after), f.padding, append_assoc (entries b.before));
      other = b.other;
      is = rw zero-add at b.is;
    }))

-- And always under it: for a payload
item_refuses : (s : List ℕ) (a : ℕ) (x r : List ℕ) (n p : ℕ) → 1 ≤ length x → drop a s ≡ x ++ r → (x ≡ sentinel_bytes → ⊥) → BadPayload (take (a + length x) s) Entity a n p → read_payload s (record { begin = a; end = a + length x }) ≡ refuse n p
unfolding read_payload read_entity
item_refuses s a x r n p h e o b =
    let f : same x sentinel_bytes ≡ false = not_true _ (λ q. o (same_sound x sentinel_bytes q)) in
    rw (part_there s a x r h e, f) (payload_refuses (take (a + length x) s) _ (a + length x) (take_length_there s a x r h e) b)

payloads_refuse : (s : List ℕ) (end at : ℕ) (is : List Item) (x : List ℕ) (ys : List (List ℕ)) (r : List ℕ) (n p : ℕ) → ProperItems is → 1 ≤ length x → drop at s ≡ entries is ++ (four (length x) ++ (x ++ r))
    → (x ≡ sentinel_bytes → ⊥) → BadPayload (take (at + length (entries is) + 4 + length x) s) Entity (at + length (entries is) + 4) n p → read_payloads s end (parts_of at (map payload is ++ (x ∷ ys))) ≡ refuse n p
unfolding read_payloads
payloads_refuse s end at [] x ys r n p q h e o b = rw (item_refuses s (at + 4) x r n p h (rest_after s at (four (length x)) _ e) o (rw add-zero at b))
payloads_refuse s end at (i ∷ is) x ys r n p q h e o b =
    let y : List ℕ = payload i in
    let t : List ℕ = entries is ++ (four (length x) ++ (x ++ r)) in
    let g : drop at s ≡ four (length y) ++ (y ++ t) = simp append_assoc at e in
    let d : drop (at + 4) s ≡ y ++ t = rest_after s at (four (length y)) _ g in
    let k : at + length (entries (i ∷ is)) ≡ at + 4 + length y + length (entries is) = omega (arith, length-append y (entries is)) in
    rw (payload_complete s at i t q.0 d, payloads_refuse s end (at + 4 + length y) is x ys r n p q.1 h (rest_after s (at + 4) y t d) o (rw k at b))

section_refuses : (s : List ℕ) → Bytes s → {n p : ℕ} → SectionRefusal s n p → read_section s ≡ refuse n p
unfolding read_section
section_refuses s u (bad_framing (too_long h)) = rw (lt-leb (length s) limit h)
section_refuses s u (bad_framing (bad_boundary {n = m} {p = q} h b f)) = rw (le-leb (length s) limit h, framing_refuses s u m q b f)
section_refuses s u (bad_payload {n = m} {p = q} h b) =
    let pays : List (List ℕ) = map payload b.before ++ (b.pay ∷ b.after) in
    let e : s ≡ framed pays ++ replicate b.padding 0 = b.there ∙ rw (framed_items b.before (b.pay ∷ b.after), append_assoc (entries b.before)) in
    let r : read_payloads s (length (framed pays)) (parts_of 0 pays) ≡ refuse m q =
    payloads_refuse s (length (framed pays)) 0 b.before b.pay b.after (framed b.after ++ replicate b.padding 0) m q b.proper b.framable.0 (simp append_assoc at b.there) b.other (rw zero-add b.is) in
    rw (le-leb (length s) limit h, framing_complete s pays b.padding (framable_join b.before _ b.proper b.framable) e, r)

pub refusal_exact : RefusalExact
refusal_exact s u n p = (fails_refuse (section_bad s u), section_refuses s u)

pub refusal_unique : RefusalUnique
refusal_unique s u n p m q a b =
    let e = section_refuses s u a in
    let f = section_refuses s u b in
    (cc, cc)
