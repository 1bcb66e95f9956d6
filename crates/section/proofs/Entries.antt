-- The walk over a section: from boundary to boundary, and what is read on the way.
use Prim.Native.Nat.{ℕ, ◌+◌, ◌*◌, ◌/◌, ◌≤◌, ◌<◌, min}
use native.Mathlib.Omega.{arith}
use mathlib.Core.Bool.{Bool, true, false, cond}
use mathlib.Core.List.{List, [], ◌∷◌, ◌++◌, append_assoc, append-nil}
use mathlib.Core.Path.{◌≡◌, refl, sym, ap, ◌∙◌}
use lib.Dec.{ltb}
use lib.ListN.{length, take, drop, length-append, length-drop}
use lib.Seq.{length-take-le}
use borrow.Author.Tests.{ltb-true, ltb-false, le-leb, lt-leb, eq-eqb}
use Rattle.layout.specs.Layout.{Leaf}
use Rattle.layout.specs.Written.{bytes, row_width}
use Rattle.layout.specs.Entities.{Entity}
use Rattle.layout.specs.Reading.{Outcome, ok, refuse, ◌>>=◌, read}
use Rattle.layout.specs.Answers.{limit, whole_rows}
use Rattle.layout.specs.ReadAlone.{through_table}
use Rattle.layout.specs.Theorems.{Bytes}
use Rattle.layout.proofs.Walk.{all_ok}
use Rattle.layout.proofs.InBytes.{read_sound}
use Rattle.raw_bytes.specs.Bytes.{number_or0, same}
use Rattle.reading.specs.State.{Cursor, ReadState, read_state, new_cursor, finished_at, stopped}
use Rattle.reading.specs.Run.{run}
use Rattle.reading.specs.Answered.{answered}
use Rattle.reading.specs.Theorems.{arrive_all, Follows}
use Rattle.raw_bytes.proofs.Number.{number_there}
use Rattle.reading.proofs.Table.{arrive_all_length, fills, counts}
use Rattle.reading.proofs.Reading.{arrive_all_refusal, moved_of, stops_of, run_read}
use Rattle.reading.proofs.Answered.{finished_refused, answered_refused, answered_told}
use Rattle.framing.specs.Framing.{Part, Parts, framing_from}
use Rattle.framing.specs.Answers.{end_of, framing_end}
use Rattle.framing.specs.Entries.{framed, Framable, sentinel_bytes}
use Rattle.framing.specs.Places.{entry_end}
use Rattle.framing.proofs.Framing.{part_at, parts_of, parts_before, framing_start, framed_as, entry_at}
use Rattle.framing.proofs.Entries.{Next, entry_here, none_here, whole_here, next_whole}
use Rattle.framing.proofs.Refusals.{framing_end_lem}
use Rattle.section.specs.Derivation.{Placed, total_leaves, rows_of, given_of}
use Rattle.section.specs.Section.{ended, read_entity, read_payload, read_payloads, read_section}
use Rattle.section.specs.Entry.{Stage, stage, seeks, entered, past_entry}
use Rattle.section.specs.Private.{arrive_entities, Reads, reads, stops, Walked, Walks}
use Rattle.section.proofs.Section.{bytes_take}

pub walked_start : (s : List ℕ) → Walked s 0
walked_start s = record { inside = omega arith; rest = sym (framing_end_lem s) }

-- After a whole entry
walked_on : {s : List ℕ} {at n : ℕ} → Walked s at → Next s at n → Walked s (at + 4 + n)
walked_on w x = record { inside = x.inside; rest = w.rest ∙ x.ends }

-- The entities from a boundary on
unfoldable pub read_from : List ℕ → ℕ → Outcome ℕ (List Placed)
read_from s at = framing_from s at >>= λ parts end. read_payloads s end parts

section_from : (s : List ℕ) → length s ≤ limit → read_section s ≡ read_from s 0
unfolding read_section read_from
section_from s h = rw (le-leb (length s) limit h, framing_start s)

-- Entities, followed by those found after them
abbrev pub before : List Placed → Outcome ℕ (List Placed) → Outcome ℕ (List Placed)
before es o = o >>= λ fs end. ok (es ++ fs) end

before_none : (o : Outcome ℕ (List Placed)) → before [] o ≡ o
before_none (ok fs e) = refl
before_none (refuse n p) = refl

before_append : (es fs : List Placed) (o : Outcome ℕ (List Placed)) → before es (before fs o) ≡ before (es ++ fs) o
before_append es fs (ok gs e) = rw append_assoc
before_append es fs (refuse n p) = refl

-- Entries continue from a boundary up to the padding
pub record Clear (s : List ℕ) (at end : ℕ) : Type 0 where
  pub parts : List Part
  pub frames : framing_from s at ≡ ok parts end

pub clear_from : (s : List ℕ) (at : ℕ) → Walked s at → (end : ℕ) → framing_end s ≡ ok tt end → Clear s at end
clear_from s at w end q = go (framing_from s at) refl (sym w.rest ∙ q)
  where
    go : (g : Parts) → framing_from s at ≡ g → end_of g ≡ ok tt end → Clear s at end
    go (ok ps e) k w = let v : e ≡ end = cc in record { parts = ps; frames = k ∙ rw v }
    go (refuse n p) k w = let z : ◌≡◌ {A = ℕ} 0 1 = cc in absurd (omega arith)

-- The entities from the entry at a boundary on: if its payload is read, its entities come before those that follow; if it is
-- refused, and the framing is good, so is the section
reads_on : (s : List ℕ) (at z : ℕ) (p : Part) → framing_from s at ≡ parts_before (p ∷ []) (framing_from s z) → (es : List Placed) (m : ℕ) → read_payload s p ≡ ok es m → read_from s at ≡ before es (read_from s z)
unfolding read_from read_payloads
reads_on s at z p q es m k = go (framing_from s z) refl
  where
    go : (g : Parts) → framing_from s z ≡ g → read_from s at ≡ before es (read_from s z)
    go (ok ps end) e = rw (q, e, k)
    go (refuse n l) e = rw (q, e)

reads_off : (s : List ℕ) (at z : ℕ) (p : Part) → framing_from s at ≡ parts_before (p ∷ []) (framing_from s z) → (k l : ℕ) → read_payload s p ≡ refuse k l → (end : ℕ) → Clear s z end → read_from s at ≡ refuse k l
unfolding read_from read_payloads
reads_off s at z p q k l e end c = rw (q, c.frames, e)

-- At the padding
reads_end : (s : List ℕ) → Bytes s → (at end : ℕ) → at ≤ length s → Clear s at end → entry_end s at ≡ at → (end ≡ at) × (read_from s at ≡ ok [] end)
unfolding read_from read_payloads
reads_end s u at end h c q = let f = all_ok (framed_as s u at h) c.frames in go f.payloads f.span.framable f.parts f.span.there f.span.ends
  where
    go : (xs : List (List ℕ)) → Framable xs → c.parts ≡ parts_of at xs → drop at s ≡ framed xs ++ drop end s → end ≡ at + length (framed xs) → (end ≡ at) × (read_from s at ≡ ok [] end)
    go [] f p e n = (omega arith, rw (c.frames, p))
    go (x ∷ xs) f p e n =
        let i = entry_at s at x (framed xs ++ drop end s) h f.0 f.1 (simp append_assoc at e) in
        let m : number_or0 s at ≡ length x = number_there s at (omega (arith, i.inside)) ∙ i.number in
        absurd (omega (arith, q, m, f.0, i.inside, entry_here s at (omega (arith, m, f.0)) (omega (arith, m, i.inside))))

-- Entities that are read
arrive_entities_more : (es : List Placed) (e : Placed) (st : ReadState) → arrive_entities (es ++ (e ∷ [])) st ≡ arrive_all e.content (seeks e.at (arrive_entities es st))
arrive_entities_more [] e st = refl
arrive_entities_more (f ∷ es) e st = arrive_entities_more es e (arrive_all f.content (seeks f.at st))

pub arrive_entities_refusal : (es : List Placed) (st : ReadState) → (arrive_entities es st).cursor.refusal ≡ st.cursor.refusal
arrive_entities_refusal [] st = refl
arrive_entities_refusal (e ∷ es) st = arrive_entities_refusal es (arrive_all e.content (seeks e.at st)) ∙ arrive_all_refusal e.content (seeks e.at st)

arrive_entities_length : (es : List Placed) (st : ReadState) → length (arrive_entities es st).table ≡ length st.table
arrive_entities_length [] st = refl
arrive_entities_length (e ∷ es) st = arrive_entities_length es (arrive_all e.content (seeks e.at st)) ∙ arrive_all_length e.content (seeks e.at st)

-- The walk has reached a boundary
pub record Come (s table : List ℕ) (at : ℕ) (g : Stage) : Type 0 where
  pub found : List Placed
  pub stands : g ≡ stage (seeks at (arrive_entities found (read_state new_cursor table))) (length found)
  pub rest : read_section s ≡ before found (read_from s at)
  pub walked : Walked s at
  pub few : length found ≤ at

pub come_start : (s table : List ℕ) → length s ≤ limit → (g : Stage) → g ≡ stage (read_state new_cursor table) 0 → Come s table 0 g
come_start s table h g e =
    record { found = []; stands = e; rest = section_from s h ∙ sym (before_none (read_from s 0)); walked = walked_start s; few = omega arith }

pub come_length : (s table : List ℕ) (at : ℕ) (g : Stage) → Come s table at g → length g.state.table ≡ length table
come_length s table at g h = ap (λ (x : Stage). length x.state.table) h.stands ∙ arrive_entities_length h.found (read_state new_cursor table)

-- The result of an entry that ends at a boundary: a refusal, or the walk reaches that boundary
pub record Leads (s table : List ℕ) (end : ℕ) (g : Stage) : Type 0 where
  pub refuses : (g.state.cursor.refusal ≡ 0 → ⊥) → Walks s table end g
  pub goes : g.state.cursor.refusal ≡ 0 → Come s table end g

module _ (s table : List ℕ) (u : Bytes s) (small : length s ≤ limit) where
  module _ (at : ℕ) (es : List Placed) (rest : read_section s ≡ before es (read_from s at)) (good : Walked s at) (n : ℕ) (x : Next s at n) (few : length es ≤ at) where
    abbrev st : ReadState
    st = arrive_entities es (read_state new_cursor table)

    abbrev z : ℕ
    z = at + 4 + n

    off : (k p : ℕ) → read_payload s (part_at at n) ≡ refuse k p → (end : ℕ) → framing_end s ≡ ok tt end → read_section s ≡ refuse k p
    off k p q end f = rest ∙ rw (reads_off s at z (part_at at n) x.frames k p q end (clear_from s z (walked_on good x) end f))

    on : (fs : List Placed) (m : ℕ) → read_payload s (part_at at n) ≡ ok fs m → read_section s ≡ before (es ++ fs) (read_from s z)
    on fs m q = rest ∙ ap (before es) (reads_on s at z (part_at at n) x.frames fs m q) ∙ before_append es fs (read_from s z)

    leads_refused : (g : Stage) (k p : ℕ) → g.state.cursor.refusal ≡ k → (k ≡ 0 → ⊥) → g.state.cursor.at ≡ p → length g.state.table ≡ length table → read_payload s (part_at at n) ≡ refuse k p → Leads s table z g
    leads_refused g k p e i q l r = record {
      refuses = λ w. record { walked = walked_on good x; kept = l; reads = λ end f. rw (off k p r end f) (stops (e, i, q, l)) };
      goes = λ w. absurd (i (sym e ∙ w));
    }

    leads_on : (g : Stage) → g.state.cursor.refusal ≡ 0 → Come s table z g → Leads s table z g
    leads_on g e h = record { refuses = λ w. absurd (w e); goes = λ w. h }

    -- The sentinel
    is_sentinel : same (drop (at + 4) (take z s)) sentinel_bytes ≡ true → read_payload s (part_at at n) ≡ ok [] z
    unfolding read_payload
    is_sentinel q = rw q

    leads_sentinel : same (drop (at + 4) (take z s)) sentinel_bytes ≡ true → Leads s table z (stage (seeks z st) (length es))
    leads_sentinel q =
        leads_on (stage (seeks z st) (length es)) (arrive_entities_refusal es (read_state new_cursor table))
        (record { found = es; stands = refl; rest = on [] z (is_sentinel q) ∙ rw append-nil; walked = walked_on good x; few = omega arith })

    -- An entity
    module _ (f : same (drop (at + 4) (take z s)) sentinel_bytes ≡ false) where
      abbrev r : ReadState
      r = run Entity (take z s) (seeks (at + 4) st)

      abbrev result : Stage
      result = stage (read_state (finished_at z r.cursor) r.table) (length es + 1)

      payload_read : (o : Outcome ℕ (List Leaf)) → read Entity (take z s) (at + 4) ≡ o → read_payload s (part_at at n) ≡ (o >>= λ ls e. ended (part_at at n) ls e)
      unfolding read_payload read_entity
      payload_read o q = rw (f, q)

      taken : length (take z s) ≡ z
      taken = length-take-le z s x.inside

      follows : Follows (seeks (at + 4) st) r (read Entity (take z s) (at + 4))
      follows = run_read (take z s) (omega (arith, taken, x.inside)) Entity (seeks (at + 4) st) (arrive_entities_refusal es (read_state new_cursor table))

      entity_refused : (k p : ℕ) → read Entity (take z s) (at + 4) ≡ refuse k p → Leads s table z result
      entity_refused k p q =
          let (e, i, g, l) = stops_of (rw q at follows) in
          let v : finished_at z r.cursor ≡ r.cursor = finished_refused z r.cursor (λ w. i (sym e ∙ w)) in
          leads_refused result k p (ap (λ (c : Cursor). c.refusal) v ∙ e) i (ap (λ (c : Cursor). c.at) v ∙ g) (l ∙ arrive_entities_length es (read_state new_cursor table))
          (payload_read (refuse k p) q)

      -- The entity ends inside the payload
      ends_inside : (ls : List Leaf) (m : ℕ) → read Entity (take z s) (at + 4) ≡ ok ls m → m ≤ z
      ends_inside ls m q =
          let (v, proper, same-leaves, stand) = read_sound Entity (take z s) (bytes_take z s u) (at + 4) ls m q in
          omega (arith, stand.1, ap length stand.0, length-append (bytes Entity v) (drop m (take z s)), length-drop (at + 4) (take z s), length-drop m (take z s), taken)

      entity_read : (ls : List Leaf) (m : ℕ) (b : Bool) → ltb m z ≡ b → read Entity (take z s) (at + 4) ≡ ok ls m → Leads s table z result
      entity_read ls m true w q =
          let (e, g) = moved_of (rw q at follows) in
          let i : r.cursor.refusal ≡ 0 = ap (λ (y : ReadState). y.cursor.refusal) e ∙ arrive_all_refusal ls (seeks (at + 4) st) ∙ arrive_entities_refusal es (read_state new_cursor table) in
          let v : finished_at z r.cursor ≡ stopped 12 m r.cursor = rw (g, w, eq-eqb _ _ i) in
          leads_refused result 12 m (ap (λ (c : Cursor). c.refusal) v) (λ y. omega arith) (ap (λ (c : Cursor). c.at) v)
          (ap (λ (y : ReadState). length y.table) e ∙ arrive_all_length ls (seeks (at + 4) st) ∙ arrive_entities_length es (read_state new_cursor table))
          (payload_read (ok ls m) q ∙ rw (lt-leb z m (ltb-true m z w)))
      entity_read ls m false w q =
          let (e, g) = moved_of (rw q at follows) in
          let i : r.cursor.refusal ≡ 0 = ap (λ (y : ReadState). y.cursor.refusal) e ∙ arrive_all_refusal ls (seeks (at + 4) st) ∙ arrive_entities_refusal es (read_state new_cursor table) in
          let y : m ≡ z = omega (arith, ltb-false m z w, ends_inside ls m q) in
          let v : finished_at z r.cursor ≡ r.cursor = rw (g, w) in
          let j : Placed = record { at = at + 4; content = ls } in
          let k : arrive_entities (es ++ (j ∷ [])) (read_state new_cursor table) ≡ r = arrive_entities_more es j (read_state new_cursor table) ∙ sym e in
          let a : r.cursor.at ≡ z = g ∙ y in
          let l : length (es ++ (j ∷ [])) ≡ length es + 1 = length-append es (j ∷ []) in
          leads_on result (ap (λ (c : Cursor). c.refusal) v ∙ i)
          (record {
            found = es ++ (j ∷ []);
            stands =
                ap (λ (c : Cursor). stage (read_state c r.table) (length es + 1)) v
                ∙ ap (λ (b : ℕ). stage (seeks b r) (length es + 1)) a
                ∙ sym (ap (λ (t : ReadState). stage (seeks z t) (length (es ++ (j ∷ [])))) k ∙ ap (λ (b : ℕ). stage (seeks z r) b) l);
            rest = on (j ∷ []) m (payload_read (ok ls m) q ∙ rw (le-leb z m (omega arith)));
            walked = walked_on good x;
            few = omega arith;
          })

      leads_entity : (o : Outcome ℕ (List Leaf)) → read Entity (take z s) (at + 4) ≡ o → Leads s table z result
      leads_entity (ok ls m) q = entity_read ls m (ltb m z) refl q
      leads_entity (refuse k p) q = entity_refused k p q

    leads_entered : Leads s table z (entered s (at + 4) z (stage (seeks at st) (length es)))
    leads_entered = go (same (drop (at + 4) (take z s)) sentinel_bytes) refl
      where
        go : (b : Bool) → same (drop (at + 4) (take z s)) sentinel_bytes ≡ b
            → Leads s table z (cond b (stage (seeks z st) (length es))
            (stage (read_state (finished_at z (run Entity (take z s) (seeks (at + 4) st)).cursor) (run Entity (take z s) (seeks (at + 4) st)).table) (length es + 1)))
        go true q = leads_sentinel q
        go false q = leads_entity q (read Entity (take z s) (at + 4)) refl

  module _ (at : ℕ) (g : Stage) (h : Come s table at g) (end : ℕ) (q : end ≡ entry_end s at) where
    pub stands_at : g.state.cursor.at ≡ at
    stands_at = ap (λ (x : Stage). x.state.cursor.at) h.stands

    -- From one boundary to the next
    module _ (l : at < end) where
      here : at < entry_end s at
      here = omega (arith, q)

      pub entry_whole : end ≡ at + 4 + number_or0 s at
      entry_whole = q ∙ (whole_here s at here).0

      pub entry_inside : end ≤ length s
      entry_inside = omega (arith, entry_whole, (whole_here s at here).2)

      pub entry_fits : g.state.cursor.at + 4 + number_or0 s g.state.cursor.at ≤ length s
      entry_fits = rw (stands_at, ← entry_whole) entry_inside

      pub few_entities : g.entities ≤ limit
      few_entities = rw (ap (λ (x : Stage). x.entities) h.stands) (omega (arith, h.few, h.walked.inside, small))

      pub leads : (r : Stage) → r ≡ past_entry s g → Leads s table end r
      unfolding past_entry
      leads r e = rw (q, (whole_here s at here).0, e, h.stands) (leads_entered at h.found h.rest h.walked (number_or0 s at) (next_whole s u at here) h.few)

    -- Where there is no whole entry
    pub come_end : end ≤ at → Walks s table at g
    come_end l = record { walked = h.walked; kept = come_length s table at g h; reads = all_read }
      where
        all_read : (end : ℕ) → framing_end s ≡ ok tt end → Reads table end g (read_section s)
        all_read end f =
            let (e, k) = reads_end s u at end h.walked.inside (clear_from s at h.walked end f) (none_here s at (omega (arith, q))) in
            let r : read_section s ≡ ok h.found end = h.rest ∙ rw (k, append-nil) in
            rw r (reads (h.stands ∙ ap (λ (x : ℕ). stage (seeks x (arrive_entities h.found (read_state new_cursor table))) (length h.found)) (sym e)))

-- Rows of entities in the table
record Filled (es : List Placed) (st r : ReadState) : Type 0 where
  rows : r.cursor.rows ≡ st.cursor.rows + total_leaves es
  front : take (row_width * r.cursor.rows) r.table ≡ take (row_width * st.cursor.rows) st.table ++ rows_of es

entities_fill : (es : List Placed) (st : ReadState) → st.cursor.rows + total_leaves es ≤ whole_rows st.table → Filled es st (arrive_entities es st)
entities_fill [] st h = record { rows = omega arith; front = rw append-nil }
entities_fill (e ∷ es) st h =
    let f = fills e.content (seeks e.at st) (omega arith) in
    let l = ap (λ (n : ℕ). n / row_width) (arrive_all_length e.content (seeks e.at st)) in
    let i = entities_fill es (arrive_all e.content (seeks e.at st)) (omega (arith, f.rows, l)) in
    record { rows = omega (arith, i.rows, f.rows); front = i.front ∙ rw (f.front, append_assoc) }

-- Whether they fit or not, they are counted up to one more than the table has
entities_count : (es : List Placed) (st : ReadState) → min (st.cursor.rows + total_leaves es) (whole_rows st.table + 1) ≤ (arrive_entities es st).cursor.rows
entities_count [] st = omega arith
entities_count (e ∷ es) st =
    let l = ap (λ (n : ℕ). n / row_width) (arrive_all_length e.content (seeks e.at st)) in
    omega (arith, counts e.content (seeks e.at st), entities_count es (arrive_all e.content (seeks e.at st)), l)

-- The answer at the end of the walk
pub answers : (table : List ℕ) (end : ℕ) (g : Stage) (o : Outcome ℕ (List Placed)) → Reads table end g o → answered g.entities g.state ≡ through_table (o >>= λ es e. ok (given_of es) e) table
answers table end g o (reads {es = es} {at = at} e) =
    let st = read_state new_cursor table in
    ap (λ (x : Stage). answered x.entities x.state) e
    ∙ answered_told (given_of es) at table (seeks end (arrive_entities es st)) (arrive_entities_refusal es st) (arrive_entities_length es st)
    (λ k. let f = entities_fill es st (omega arith) in (f.rows ∙ omega arith, f.front)) (λ k. omega (arith, entities_count es st))
answers table end g o (stops h) = answered_refused g.entities g.state (λ w. h.1 (sym h.0 ∙ w)) ∙ rw (h.0, h.2, h.3)

-- What the stage at the end of the walk says of the section
pub reads_accepted : {table : List ℕ} {end : ℕ} {g : Stage} (o : Outcome ℕ (List Placed)) → Reads table end g o → g.state.cursor.refusal ≡ 0 → (es : List Placed) × (at : ℕ) × (o ≡ ok es at)
reads_accepted o (reads {es} {at} e) z = (es, at, refl)
reads_accepted o (stops h) z = absurd (h.1 (sym h.0 ∙ z))

pub reads_refused : {table : List ℕ} {end : ℕ} {g : Stage} (o : Outcome ℕ (List Placed)) → Reads table end g o → (g.state.cursor.refusal ≡ 0 → ⊥) → o ≡ refuse g.state.cursor.refusal g.state.cursor.at
reads_refused {table} o (reads {es} e) n = absurd (n (ap (λ (x : Stage). x.state.cursor.refusal) e ∙ arrive_entities_refusal es (read_state new_cursor table)))
reads_refused o (stops h) n = rw (h.0, h.2)

-- One entry, from the results of the code's calls: `end` is its end, b whether it is the sentinel
module _ (s : List ℕ) (g : Stage) (at end : ℕ) (l : g.state.cursor.at ≡ at) (q : end ≡ at + 4 + number_or0 s at) (b : Bool) (e : b ≡ same (drop (at + 4) (take end s)) sentinel_bytes) where
  pub entry_sentinel : b ≡ true → (r : ReadState) → r ≡ seeks end g.state → stage r g.entities ≡ past_entry s g
  unfolding past_entry
  entry_sentinel k r w = rw (l, ← q, ← e, k, w)

  pub entry_entity : b ≡ false → (c : ReadState) → c ≡ seeks (at + 4) g.state → (r : ReadState) → r ≡ run Entity (take end s) c
      → (d : ReadState) → d ≡ read_state (finished_at end r.cursor) r.table → stage d (g.entities + 1) ≡ past_entry s g
  unfolding past_entry
  entry_entity k c w r v d y =
      let i : run Entity (take end s) (seeks (at + 4) g.state) ≡ r = sym (v ∙ rw w) in
      rw (l, ← q, ← e, k, i, y)
