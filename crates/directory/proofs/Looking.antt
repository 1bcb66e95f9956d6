-- The look-up: entries are read one after the other, and the last that starts at or before the position is remembered.
use Prim.Native.Nat.{ℕ, ◌+◌, ◌-◌, ◌≤◌, ◌<◌}
use native.Mathlib.Omega.{arith}
use mathlib.Core.Bool.{Bool, true, false, cond, and-eq-true_iff}
use mathlib.Core.List.{List, [], ◌∷◌}
use mathlib.Core.Path.{◌≡◌, refl, sym, ap, subst, ◌∙◌}
use lib.Dec.{eqb, leb, ltb}
use lib.ListN.{length, take, drop}
use lib.Seq.{take-append_seam}
use borrow.Author.Tests.{le-leb, lt-leb, lt-ltb, le-ltb, ltb-true, ltb-false, eq-eqb, eqb-true, eqb-false}
use Rattle.layout.specs.Layout.{leaves}
use Rattle.layout.specs.Written.{bytes}
use Rattle.layout.specs.Entities.{Entity}
use Rattle.layout.specs.Reading.{refuse}
use Rattle.layout.specs.Answers.{limit}
use Rattle.layout.specs.Theorems.{Bytes}
use Rattle.layout.proofs.Walk.{all_ok}
use Rattle.layout.proofs.InBytes.{drop_take}
use Rattle.layout.proofs.BadReads.{not_true}
use Rattle.raw_bytes.specs.Bytes.{number_or0, same}
use Rattle.raw_bytes.proofs.Compared.{same_sound}
use Rattle.std.specs.Prelude.{Result, Ok, Err}
use Rattle.table.specs.declared.Refusal.{Refusal}
use Rattle.reading.specs.State.{ReadState, read_state, new_cursor, finished_at}
use Rattle.reading.specs.Run.{run}
use Rattle.framing.specs.Entries.{sentinel_bytes}
use Rattle.framing.specs.Framing.{framing_from}
use Rattle.framing.specs.Answers.{framing_of, end_of}
use Rattle.framing.specs.Places.{entry_end}
use Rattle.framing.proofs.Entries.{entry_here, whole_here}
use Rattle.section.specs.Derivation.{Item, sentinel, entity, payload, ProperItem, placed, Derivation}
use Rattle.section.specs.Section.{read_section}
use Rattle.section.specs.Entry.{Stage, stage, seeks, past_entry, read_entry}
use Rattle.section.specs.Rest.{Rest}
use Rattle.section.specs.Demand3.{Good}
use Rattle.section.specs.Private.{Reads, Walks}
use Rattle.section.proofs.Derivation.{kind_some, payload_some}
use Rattle.section.proofs.Entries.{Come, come_start, Leads, leads, come_end, arrive_entities_refusal, reads_accepted, reads_refused}
use Rattle.section.proofs.Decode.{refused_section}
use Rattle.section.proofs.Section.{section_complete, section_sound}
use Rattle.section.proofs.Next.{entry_none, entry_some}
use Rattle.section.proofs.Rest.{rest_whole, First, rest_first, rest_none}
use Rattle.directory.specs.Directory.{records_from}
use Rattle.directory.specs.Holder.{ByteHolder, unheld, unread, holder_from, entity_at}
use Rattle.directory.specs.Exact.{ExactHolder}
use Rattle.directory.specs.Private.{IsHolder, boundary, entry_read, seen_after, held_by, held_in, Looked}
use Rattle.directory.specs.declared.Seen.{Seen}
use Rattle.directory.proofs.Holding.{and_false, holder_exact}

-- The entities up to an item, if there are so many before it
abbrev count_after : Item → ℕ → ℕ
count_after sentinel n = n
count_after (entity v) n = n + 1

-- Nothing that starts after a position contains it
after_none : (at : ℕ) (is : List Item) (index row position : ℕ) → position < at → holder_from index (records_from row (placed at is)) position ≡ unheld
after_none at [] index row position h = refl
after_none at (sentinel ∷ is) index row position h = after_none (at + 4 + length sentinel_bytes) is index row position (omega arith)
after_none at (entity v ∷ is) index row position h =
    rw (lt-leb (at + 4 - 4) position (omega arith))
    (after_none (at + 4 + length (bytes Entity v)) is (index + 1) (row + length (leaves Entity v)) position (omega arith))

-- The entry of an item that starts at or before the position: it contains the position, or ends at or before it
module _ (at index row position : ℕ) (is : List Item) where
  in_item : (i : Item) → at ≤ position → position < at + 4 + length (payload i)
      → held_by (record { index = index; next = count_after i index; end = at + 4 + length (payload i) }) position ≡ holder_from index (records_from row (placed at (i ∷ is))) position
  in_item sentinel h l = rw (le-leb index index (omega arith)) (sym (after_none (at + 4 + length sentinel_bytes) is index row position l))
  in_item (entity v) h l =
      rw (lt-leb (index + 1) index (omega arith), lt-leb (at + 4 + length (bytes Entity v)) position l, le-leb (at + 4 - 4) position (omega arith), lt-ltb position (at + 4 - 4 + (4 + length (bytes Entity v))) (omega arith))

  past_item : (i : Item) → at + 4 + length (payload i) ≤ position
      → (next : ℕ) × (holder_from index (records_from row (placed at (i ∷ is))) position ≡ holder_from (count_after i index) (records_from next (placed (at + 4 + length (payload i)) is)) position)
  past_item sentinel l = (row, refl)
  past_item (entity v) l =
      (row + length (leaves Entity v), rw (le-ltb position (at + 4 - 4 + (4 + length (bytes Entity v))) (omega arith), and_false (leb (at + 4 - 4) position)))

-- A boundary at or before the position: nothing before it contains the position
record Around (s : List ℕ) (position at index : ℕ) (w : Rest s 0) : Type 0 where
  rest : Rest s at
  row : ℕ
  same_holder : holder_from 0 (records_from 0 (placed 0 w.derivation.items)) position ≡ holder_from index (records_from row (placed at rest.derivation.items)) position

cond_entities : (b : Bool) (x y : Stage) → (cond b x y).entities ≡ cond b x.entities y.entities
cond_entities true x y = refl
cond_entities false x y = refl

-- Two states of a reading, one entry apart if there is one, and what was seen before the first
pub record Looks (s : List ℕ) (position : ℕ) (p q : Stage) (seen : Seen) : Type 0 where
  pub table : List ℕ
  pub come : Come s table p.state.cursor.at p
  pub next : q ≡ read_entry s p
  pub ends : seen.end ≤ p.state.cursor.at
  around : p.state.cursor.at ≤ position → (w : Rest s 0) → Around s position p.state.cursor.at p.entities w
  passed : position < p.state.cursor.at → IsHolder s position (held_by seen position)

module _ (s : List ℕ) (u : Bytes s) (small : length s ≤ limit) (position : ℕ) (p q : Stage) (seen : Seen) (l : Looks s position p q seen) where
  abbrev table : List ℕ
  table = l.table

  abbrev at : ℕ
  at = p.state.cursor.at

  abbrev g : Stage
  g = p

  unrefused : p.state.cursor.refusal ≡ 0
  unrefused = ap (λ (x : Stage). x.state.cursor.refusal) l.come.stands ∙ arrive_entities_refusal l.come.found (read_state new_cursor table)

  few : p.entities ≤ limit
  few = omega (arith, ap (λ (x : Stage). x.entities) l.come.stands, l.come.few, l.come.walked.inside, small)

  -- Without a whole entry nothing is read
  same_stage : entry_end s at ≤ at → q ≡ g
  same_stage h = l.next ∙ entry_none s g unrefused small few h

  -- With one, it is read
  past : at < entry_end s at → q ≡ past_entry s g
  past h = l.next ∙ entry_some s g unrefused small few h

  led : at < entry_end s at → Leads s table (entry_end s at) q
  led h = leads s table u small at g l.come (entry_end s at) refl h q (past h)

  -- Whether there is one
  entry_if_moved : at < q.state.cursor.at → at < entry_end s at
  entry_if_moved h = go (ltb at (entry_end s at)) refl
    where
      go : (b : Bool) → ltb at (entry_end s at) ≡ b → at < entry_end s at
      go true e = ltb-true _ _ e
      go false e = absurd (omega (arith, h, ap (λ (x : Stage). x.state.cursor.at) (same_stage (ltb-false _ _ e))))

  entry_if_refused : (q.state.cursor.refusal ≡ 0 → ⊥) → at < entry_end s at
  entry_if_refused n = go (ltb at (entry_end s at)) refl
    where
      go : (b : Bool) → ltb at (entry_end s at) ≡ b → at < entry_end s at
      go true e = ltb-true _ _ e
      go false e = absurd (n (ap (λ (x : Stage). x.state.cursor.refusal) (same_stage (ltb-false _ _ e)) ∙ unrefused))

  -- The item of the entry, in a derived section
  module _ (w : Rest s at) (h : at < entry_end s at) where
    abbrev n : ℕ
    n = number_or0 s at

    first : First s at n w.derivation.items
    first = rest_first w n refl (λ z. omega (arith, z, (whole_here s at h).1))

    payload_is : drop (at + 4) (take (at + 4 + n) s) ≡ payload first.item
    payload_is =
        let k : at + 4 + n - (at + 4) ≡ length (payload first.item) = omega (arith, first.sized) in
        drop_take s (at + 4) (at + 4 + n) (omega arith) (omega (arith, (whole_here s at h).2))
        ∙ ap (λ (m : ℕ). take m (drop (at + 4) s)) k
        ∙ ap (λ (x : List ℕ). take (length (payload first.item)) x) first.there
        ∙ take-append_seam (payload first.item) first.after

    -- The sentinel is recognized
    is_sentinel : (i : Item) → ProperItem i → cond (same (payload i) sentinel_bytes) p.entities (p.entities + 1) ≡ count_after i p.entities
    is_sentinel sentinel r = refl
    is_sentinel (entity v) r = rw (not_true (same (bytes Entity v) sentinel_bytes) (λ e. kind_some v r.0 _ (same_sound (bytes Entity v) sentinel_bytes e)))

    entities_are : q.entities ≡ count_after first.item p.entities
    unfolding past_entry
    entities_are =
        let end : ℕ = at + 4 + n in
        let r : ReadState = run Entity (take end s) (seeks (at + 4) g.state) in
        ap (λ (x : Stage). x.entities) (past h)
        ∙ cond_entities (same (drop (at + 4) (take end s)) sentinel_bytes) (stage (seeks end g.state) p.entities) (stage (read_state (finished_at end r.cursor) r.table) (p.entities + 1))
        ∙ ap (λ (x : List ℕ). cond (same x sentinel_bytes) p.entities (p.entities + 1)) payload_is
        ∙ is_sentinel first.item first.proper

  -- The entry was read
  module _ (z : q.state.cursor.refusal ≡ 0) (moved : at < q.state.cursor.at) where
    abbrev h : at < entry_end s at
    h = entry_if_moved moved

    come_next : Come s table (entry_end s at) q
    come_next = (led h).goes z

    at_next : q.state.cursor.at ≡ at + 4 + number_or0 s at
    at_next = ap (λ (x : Stage). x.state.cursor.at) come_next.stands ∙ (whole_here s at h).0

    pub nearer : length s - q.state.cursor.at < length s - at
    nearer = omega (arith, moved, at_next, (whole_here s at h).2)

    module _ (r : at ≤ position) (w : Rest s 0) where
      abbrev a : Around s position at p.entities w
      a = l.around r w

      abbrev f : First s at (number_or0 s at) a.rest.derivation.items
      f = first a.rest h

      abbrev tells : (index row place : ℕ) → List Item → ByteHolder
      tells index row place is = holder_from index (records_from row (placed place is)) position

      around_next : q.state.cursor.at ≤ position → Around s position (at + 4 + number_or0 s at) q.entities w
      around_next k =
          let (row, e) = past_item at p.entities a.row position f.others f.item (omega (arith, k, at_next, f.sized)) in
          record {
            rest = f.rest;
            row = row;
            same_holder =
                a.same_holder
                ∙ ap (tells p.entities a.row at) f.items
                ∙ e
                ∙ ap (λ (i : ℕ). tells i row (at + 4 + length (payload f.item)) f.others) (sym (entities_are a.rest h))
                ∙ ap (λ (m : ℕ). tells q.entities row (at + 4 + m) f.others) (sym f.sized)
                ∙ ap (tells q.entities row (at + 4 + number_or0 s at)) (sym f.left);
          }

      held_here : position < q.state.cursor.at → held_by (record { index = p.entities; next = q.entities; end = q.state.cursor.at }) position ≡ holder_from 0 (records_from 0 (placed 0 w.derivation.items)) position
      held_here k =
          let next = entities_are a.rest h in
          let end : q.state.cursor.at ≡ at + 4 + length (payload f.item) = at_next ∙ ap (λ (m : ℕ). at + 4 + m) f.sized in
          let here : ◌≡◌ {A = Seen} (record { index = p.entities; next = q.entities; end = q.state.cursor.at }) (record { index = p.entities; next = count_after f.item p.entities; end = at + 4 + length (payload f.item) }) = λ i. record { index = p.entities; next = next i; end = end i } in
          ap (λ (x : Seen). held_by x position) here
          ∙ in_item at p.entities a.row position f.others f.item r (omega (arith, k, end))
          ∙ sym (a.same_holder ∙ ap (tells p.entities a.row at) f.items)

    again : (x : Stage) → x ≡ read_entry s q → (b : Bool) → ltb position at ≡ b → (new : Seen) → new ≡ cond b seen (record { index = p.entities; next = q.entities; end = q.state.cursor.at }) → Looks s position q x new
    again x e true k new j =
        let before : position < at = ltb-true position at k in
        rw j
        (record {
          table = table;
          come = subst (λ (m : ℕ). Come s table m q) (sym (ap (λ (y : Stage). y.state.cursor.at) come_next.stands)) come_next;
          next = e;
          ends = omega (arith, l.ends, moved);
          around = λ r w. absurd (omega (arith, r, before, moved));
          passed = λ r. l.passed before;
        })
    again x e false k new j =
        let reached : at ≤ position = ltb-false position at k in
        rw j
        (record {
          table = table;
          come = subst (λ (m : ℕ). Come s table m q) (sym (ap (λ (y : Stage). y.state.cursor.at) come_next.stands)) come_next;
          next = e;
          ends = omega arith;
          around = λ r w. subst (λ (m : ℕ). Around s position m q.entities w) (sym at_next) (around_next reached w r);
          passed = λ r w. held_here reached w r;
        })

  pub both_of : entry_read (boundary p) q.state ≡ true → (q.state.cursor.refusal ≡ 0) × (at < q.state.cursor.at)
  both_of e = let (a, b) = (and-eq-true_iff _ _).0 e in (eqb-true _ _ a, ltb-true _ _ b)

  pub looks_again : (e : entry_read (boundary p) q.state ≡ true) (x : Stage) → x ≡ read_entry s q → (new : Seen) → new ≡ seen_after seen (boundary p) (boundary q) position → Looks s position q x new
  looks_again e x k new j = again (both_of e).0 (both_of e).1 x k (ltb position at) refl new j

  -- The end: a refusal, or no whole entry
  ends_refused : (q.state.cursor.refusal ≡ 0 → ⊥) → Looked s position at q seen
  ends_refused n =
      let k = (led (entry_if_refused n)).refuses n in
      record { table = table; walks = record { walked = l.come.walked; kept = k.kept; reads = k.reads }; held = λ z. absurd (n z) }

  none_left : (w : Rest s at) → entry_end s at ≤ at → w.derivation.items ≡ []
  none_left w k = go (eqb (number_or0 s at) 0) refl
    where
      go : (b : Bool) → eqb (number_or0 s at) 0 ≡ b → w.derivation.items ≡ []
      go true e = rest_none w (eqb-true _ _ e)
      go false e =
          let f = rest_first w (number_or0 s at) refl (eqb-false _ _ e) in
          absurd (omega (arith, k, entry_here s at (omega (arith, f.sized, payload_some f.item)) f.rest.inside))

  cond_same : (b : Bool) → cond b unheld unheld ≡ unheld
  cond_same true = refl
  cond_same false = refl

  ends_whole : entry_end s at ≤ at → Looked s position at q seen
  ends_whole k = record { table = table; walks = subst (λ (x : Stage). Walks s table at x) (sym (same_stage k)) (come_end s table u small at g l.come (entry_end s at) refl k); held = λ z. go (ltb position at) refl }
    where
      go : (b : Bool) → ltb position at ≡ b → IsHolder s position (held_by seen position)
      go true e = l.passed (ltb-true position at e)
      go false e = λ w.
          let a = l.around (ltb-false position at e) w in
          let none : held_by seen position ≡ unheld = rw (le-leb seen.end position (omega (arith, l.ends, ltb-false position at e))) (cond_same (leb seen.next seen.index)) in
          none ∙ sym (a.same_holder ∙ ap (λ (is : List Item). holder_from p.entities (records_from a.row (placed at is)) position) (none_left a.rest k))

  pub looks_end : entry_read (boundary p) q.state ≡ false → Looked s position at q seen
  looks_end e = go (eqb q.state.cursor.refusal 0) refl
    where
      stays : q.state.cursor.refusal ≡ 0 → (b : Bool) → ltb at (entry_end s at) ≡ b → Looked s position at q seen
      stays z false k = ends_whole (ltb-false _ _ k)
      stays z true k =
          let h = ltb-true _ _ k in
          let m : q.state.cursor.at ≡ entry_end s at = ap (λ (x : Stage). x.state.cursor.at) ((led h).goes z).stands in
          let v : entry_read (boundary p) q.state ≡ true = rw (eq-eqb _ _ z, lt-ltb at q.state.cursor.at (omega arith)) in
          let y : ◌≡◌ {A = ℕ} 0 1 = cc in
          absurd (omega arith)

      go : (b : Bool) → eqb q.state.cursor.refusal 0 ≡ b → Looked s position at q seen
      go true k = stays (eqb-true _ _ k) (ltb at (entry_end s at)) refl
      go false k = ends_refused (eqb-false _ _ k)

-- At the start
pub looks_start : (s table : List ℕ) → length s ≤ limit → (position : ℕ) (q : Stage) → q ≡ read_entry s (stage (read_state new_cursor table) 0)
    → Looks s position (stage (read_state new_cursor table) 0) q (record { index = 0; next = 0; end = 0 })
looks_start s table small position q k = record {
  table = table;
  come = come_start s table small (stage (read_state new_cursor table) 0) refl;
  next = k;
  ends = omega arith;
  around = λ r w. record { rest = w; row = 0; same_holder = refl };
  passed = λ r. absurd (omega arith);
}

derived_at : (s : List ℕ) (d : Derivation) → Good s d → (position : ℕ) → entity_at s position ≡ holder_from 0 (records_from 0 (placed 0 d.items)) position
unfolding entity_at
derived_at s d g position = rw (section_complete s d g)

-- The whole look-up, from the results of the code's calls
module _ (s : List ℕ) (u : Bytes s) (position : ℕ) where
  both : (h : ByteHolder) → h ≡ entity_at s position → (h ≡ entity_at s position) × ExactHolder s position h
  both h e = (e, (holder_exact s u position h).1 e)

  refused_at : (n p : ℕ) → read_section s ≡ refuse n p → unread n p ≡ entity_at s position
  unfolding entity_at
  refused_at n p e = sym (rw e)

  -- 1
  pub looked_long : limit < length s → (unread 1 0 ≡ entity_at s position) × ExactHolder s position (unread 1 0)
  unfolding read_section
  looked_long h = both (unread 1 0) (refused_at 1 0 (rw (lt-leb (length s) limit h)))

  module _ (small : length s ≤ limit) (at : ℕ) (g : Stage) (seen : Seen) (l : Looked s position at g seen) (f : Result ℕ Refusal) (e : framing_of f ≡ end_of (framing_from s at)) where
    -- 2 to 4
    pub looked_unframed : (x : Refusal) → f ≡ Err x → (unread x.number x.place ≡ entity_at s position) × ExactHolder s position (unread x.number x.place)
    looked_unframed x k = both (unread x.number x.place) (refused_at x.number x.place (refused_section s small x.number x.place (l.walks.walked.rest ∙ sym e ∙ ap framing_of k)))

    -- 5 to 12, or what was seen
    pub looked_whole : (end : ℕ) → f ≡ Ok end → (h : ByteHolder) → h ≡ held_in g.state seen position → (h ≡ entity_at s position) × ExactHolder s position h
    looked_whole end k h j = both h (j ∙ go (eqb g.state.cursor.refusal 0) refl)
      where
        read_so : Reads l.table end g (read_section s)
        read_so = l.walks.reads end (l.walks.walked.rest ∙ sym e ∙ ap framing_of k)

        accepted : (z : g.state.cursor.refusal ≡ 0) → held_by seen position ≡ entity_at s position
        accepted z =
            let (es, m, q) = reads_accepted (read_section s) read_so z in
            let (d, g, _) = all_ok (section_sound s u) q in
            l.held z (rest_whole s d g) ∙ sym (derived_at s d g position)

        go : (b : Bool) → eqb g.state.cursor.refusal 0 ≡ b → cond b (held_by seen position) (unread g.state.cursor.refusal g.state.cursor.at) ≡ entity_at s position
        go true z = accepted (eqb-true _ _ z)
        go false n = refused_at g.state.cursor.refusal g.state.cursor.at (reads_refused (read_section s) read_so (eqb-false _ _ n))
