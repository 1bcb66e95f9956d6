-- The SQL text of a mapping, from its reading.
use Prim.Native.Nat.{ℕ, ◌+◌, ◌-◌, ◌*◌, ◌≤◌, ◌<◌}
use native.Mathlib.Nat.{add-zero, zero-add}
use native.Mathlib.Omega.{arith}
use mathlib.Core.Bool.{Bool, true, false, cond}
use mathlib.Core.List.{List, [], ◌∷◌, ◌++◌, append-nil}
use mathlib.Core.Path.{◌≡◌, refl, sym, ap, subst, ◌∙◌}
use lib.Dec.{leb, eqb}
use lib.ListN.{length, get_or, drop, replicate, length-append, length-drop}
use lib.Seq.{take-append_seam, get_or-drop}
use borrow.Author.Tests.{le-leb, lt-leb, ne_eqb, eqb-true}
use Rattle.layout.specs.Layout.{Leaf, Tag, Flag, Number, plain, string, fine, Value, leaves}
use Rattle.layout.specs.Written.{four, bytes_of, row_width, value_at}
use Rattle.layout.specs.Forms.{follows, tags}
use Rattle.layout.specs.Entities.{Numeric, SqlMapping, sql_mappings, value_in, as_or_numeric}
use Rattle.layout.specs.Reading.{Outcome, ok, refuse, ◌>>=◌, need, read}
use Rattle.layout.specs.Answers.{limit}
use Rattle.layout.specs.Theorems.{Bytes}
use Rattle.layout.proofs.Equations.{read_check}
use Rattle.layout.proofs.InBytes.{rest_after, read_sound}
use Rattle.pass.specs.Pass.{Runs}
use Rattle.leaf.specs.declared.Reader.{Reader}
use Rattle.leaf.specs.Reader.{cursor_of, state_of, lent_of, reader_meaning}
use Rattle.reading.specs.State.{ReadState, read_state, new_cursor, seek}
use Rattle.reading.specs.Run.{run}
use Rattle.reading.specs.Theorems.{arrive_all, Follows}
use Rattle.reading.proofs.Reading.{arrive_all_refusal, moved_of, stops_of, run_read}
use Rattle.reading.proofs.Answered.{run_length}
use Rattle.sql_text.specs.declared.Found.{Found}
use Rattle.sql_text.specs.declared.Found.TheVariants.{Stored, Numeric as Numeric'}
use Rattle.std.specs.Prelude.{Option, Result, Ok, Err, IfOk}
use Rattle.table.specs.declared.Refusal.{Refusal}
use Rattle.paste.specs.Pasted.{pasted}
use Rattle.numeric.specs.Numeric.{numeric_size, option_of}
use Rattle.sql_text.specs.SqlText.{TextMapping, SqlText, in_section, in_buffer, number_if, text_of_leaves, sql_text_of, sql_text, sql_answer}
use Rattle.sql_text.specs.Theorems.{AsPart, FilledPart}
use Rattle.sql_text.specs.Private.{text_found, outcome_of, sized_for}

-- What the code finds is correct
abbrev pub Right : (s : List ℕ) (at size : ℕ) → Result Found Refusal → Type 0
Right s at size r = (outcome_of r ≡ sql_text s at size) × IfOk r (λ found. size ≡ numeric_size)

module _ (s : List ℕ) (at size : ℕ) where
  pub too_long : limit < length s → refuse 1 0 ≡ sql_text s at size
  unfolding sql_text
  too_long h = rw (lt-leb (length s) limit h)

  module _ (small : length s ≤ limit) where
    refused : (n p : ℕ) → read SqlMapping s at ≡ refuse n p → refuse n p ≡ sql_text s at size
    unfolding sql_text TextMapping
    refused n p e = rw (le-leb (length s) limit small, read_check SqlMapping (λ values. as_or_numeric 1 (get_or values 0 0)) s at, e)

    module _ (ls : List Leaf) (end : ℕ) (e : read SqlMapping s at ≡ ok ls end) where
      other : (value_in ls 0 ≡ 1 → ⊥) → (value_in ls 0 ≡ 3 → ⊥) → refuse 10 at ≡ sql_text s at size
      unfolding sql_text TextMapping
      other h k = rw (le-leb (length s) limit small, read_check SqlMapping (λ values. as_or_numeric 1 (get_or values 0 0)) s at, e, ne_eqb (value_in ls 0) 1 h, ne_eqb (value_in ls 0) 3 k)

      -- As or Numeric: only the buffer's size is left to test
      good : as_or_numeric 1 (value_in ls 0) ≡ fine → sql_text s at size ≡ need (eqb size numeric_size) 17 0 (sql_text_of at ls end)
      unfolding sql_text TextMapping
      good v = rw (le-leb (length s) limit small, read_check SqlMapping (λ values. as_or_numeric 1 (get_or values 0 0)) s at, e, v)

      good_as : value_in ls 0 ≡ 1 → (x : ℕ) → at + 5 + x ≡ end → sql_text s at size ≡ need (eqb size numeric_size) 17 0 (ok (in_section (at + 5)) (at + 5 + x))
      good_as h x l = good (rw h) ∙ rw (h, l)

      good_numeric : value_in ls 0 ≡ 3 → (p q : Option ℕ) → option_of p ≡ number_if (value_in ls 1) (value_in ls 2) → option_of q ≡ number_if (value_in ls 3) (value_in ls 4)
          → sql_text s at size ≡ need (eqb size numeric_size) 17 0 (text_found (Numeric' p q))
      good_numeric h p q hp hq = good (rw h) ∙ rw (h, hp, hq)

  sized_right : (found : Found) → sql_text s at size ≡ need (eqb size numeric_size) 17 0 (text_found found) → Right s at size (sized_for size found)
  sized_right found e = rw e (go (eqb size numeric_size) refl)
    where
      sized : Bool → Result Found Refusal
      sized b = cond b (Ok found) (Err (record { number = 17; place = 0 }))

      go : (b : Bool) → eqb size numeric_size ≡ b → (outcome_of (sized b) ≡ need b 17 0 (text_found found)) × IfOk (sized b) (λ found. size ≡ numeric_size)
      go true h = (refl, eqb-true size numeric_size h)
      go false h = (refl, tt)

-- The bytes at a place, the first of which is n
standing : (s b : List ℕ) (at end n : ℕ) → drop at s ≡ (n ∷ b) ++ drop end s → end ≡ at + length (n ∷ b)
    → (get_or s at 0 ≡ n) × (at + 1 ≤ length s) × (end ≤ length s)
standing s b at end n e k =
    let l : length s - at ≡ length (n ∷ b) + (length s - end) = sym (length-drop at s) ∙ ap length e ∙ length-append (n ∷ b) (drop end s) ∙ rw length-drop in
    let z : at ≡ at + 0 = omega arith in
    let g : get_or s at 0 ≡ n = ap (λ (i : ℕ). get_or s i 0) z ∙ sym (get_or-drop at s 0 0) ∙ ap (λ (x : List ℕ). get_or x 0 0) e in
    (g, omega arith, omega arith)

-- As has a tag of 1 byte, a length of 4, and the text
as_length : (ls others : List Leaf) (n : ℕ) (t : List ℕ) → ls ≡ plain Tag n ∷ others → others ≡ string t ∷ [] → length (bytes_of ls) ≡ 5 + length t
as_length ls others n t a b = rw (a, b, append-nil t) (omega arith)

-- A table of five rows has the values of a Numeric mapping's leaves
abbrev pub begun : ℕ → ReadState
begun at = read_state (seek at new_cursor) (replicate (5 * row_width) 0)

values : (at : ℕ) (ls : List Leaf) (f p g q : ℕ) (r : ReadState) → ls ≡ plain Tag 3 ∷ plain Flag f ∷ plain Number p ∷ plain Flag g ∷ plain Number q ∷ []
    → r ≡ arrive_all ls (begun at)
    → (value_at r.table 1 ≡ value_in ls 1) × (value_at r.table 2 ≡ value_in ls 2) × (value_at r.table 3 ≡ value_in ls 3) × (value_at r.table 4 ≡ value_in ls 4)
values at ls f p g q r k m = rw (m, k) (refl, refl, refl, refl)

-- A mapping that was read
module _ (s : List ℕ) (u : Bytes s) (at : ℕ) (ls : List Leaf) (end : ℕ) (e : read SqlMapping s at ≡ ok ls end) where
  tagged : (n : ℕ) × (w : Value (follows sql_mappings n)) × (ls ≡ plain Tag n ∷ leaves (follows sql_mappings n) w) × (get_or s at 0 ≡ n) × (at + 1 ≤ length s) × (end ≤ length s) × (end ≡ at + length (bytes_of ls))
  unfolding SqlMapping
  tagged =
      let (v, p, q, (a, b)) = read_sound (tags sql_mappings) s u at ls end e in
      let (x, y, z) = standing s (bytes_of (leaves (follows sql_mappings v.0) v.2)) at end v.0 a b in
      (v.0, v.2, sym q, x, y, z, b ∙ ap (λ (x : List Leaf). at + length (bytes_of x)) q)

  -- The first leaf is the tag, which is the first byte
  first : value_in ls 0 ≡ get_or s at 0
  first = ap (λ (x : List Leaf). value_in x 0) tagged.2 ∙ sym tagged.3

  module _ (h : get_or s at 0 ≡ 1) where
    as_text : (t : List ℕ) × (leaves (follows sql_mappings tagged.0) tagged.1 ≡ string t ∷ [])
    as_text =
        subst (λ (n : ℕ). (w : Value (follows sql_mappings n)) → (t : List ℕ) × (leaves (follows sql_mappings n) w ≡ string t ∷ [])) (sym h ∙ tagged.3)
        (λ t. (t, refl)) tagged.1

    as_ends : at + 5 ≤ end
    as_ends =
        let (t, q) = as_text in
        let l : length (bytes_of ls) ≡ 5 + length t = as_length ls _ tagged.0 t tagged.2 q in
        omega (arith, tagged.6)

  -- The leaves of a Numeric mapping
  numeric_leaves : get_or s at 0 ≡ 3 → (f p g q : ℕ) × (ls ≡ plain Tag 3 ∷ plain Flag f ∷ plain Number p ∷ plain Flag g ∷ plain Number q ∷ [])
  unfolding Numeric
  numeric_leaves h =
      let k : 3 ≡ tagged.0 = sym h ∙ tagged.3 in
      subst (λ (n : ℕ). (w : Value (follows sql_mappings n)) → ls ≡ plain Tag n ∷ leaves (follows sql_mappings n) w
      → (f p g q : ℕ) × (ls ≡ plain Tag 3 ∷ plain Flag f ∷ plain Number p ∷ plain Flag g ∷ plain Number q ∷ [])) k
      (λ w e. (w.0, w.1.0, w.1.1.0, w.1.1.1, e)) tagged.1 tagged.2

-- The reading of a mapping, as the code makes it: r is the reader after it
pub record Read (s : List ℕ) (at : ℕ) (r : Reader) : Type 0 where
  pub state : state_of r ≡ run SqlMapping s (begun at)
  pub bytes : r.s.now ≡ s

-- From a new reader p, which is q at the place
pub read_there : (s : List ℕ) (at : ℕ) (p q r : Reader) → p.s.now ≡ s → state_of p ≡ read_state new_cursor (replicate (5 * row_width) 0)
    → lent_of q ≡ lent_of p → state_of q ≡ read_state (seek at (cursor_of p)) p.t.now → Runs reader_meaning SqlMapping q r → Read s at r
read_there s at p q r a b e f g =
    let i : q.s.now ≡ s = ap (λ (x : List ℕ × _). x.0) e ∙ a in
    let j : state_of q ≡ begun at = f ∙ ap (λ (st : ReadState). read_state (seek at st.cursor) st.table) b in
    record { state = g.state ∙ rw (i, j); bytes = ap (λ (x : List ℕ × _). x.0) g.lent ∙ i }

-- Its tag
pub tag_there : (s : List ℕ) (at : ℕ) (r : Reader) → Read s at r → (x : ℕ) → x ≡ get_or r.s.now (at + 0) 0 → (n : ℕ) → x ≡ n → get_or s at 0 ≡ n
tag_there s at r h x e n k = sym (e ∙ rw (h.bytes, add-zero)) ∙ k

-- The reading, with a table of five rows
module _ (s : List ℕ) (at size : ℕ) (small : length s ≤ limit) (r : ReadState) (e : r ≡ run SqlMapping s (begun at)) where
  followed : Follows (begun at) r (read SqlMapping s at)
  followed = rw e (run_read s small SqlMapping (begun at) refl)

  stop_read : (r.cursor.refusal ≡ 0 → ⊥) → read SqlMapping s at ≡ refuse r.cursor.refusal r.cursor.at
  stop_read h = go (read SqlMapping s at) followed
    where
      go : (o : Outcome ℕ (List Leaf)) → Follows (begun at) r o → o ≡ refuse r.cursor.refusal r.cursor.at
      go (ok ls end) f = absurd (h (ap (λ (x : ReadState). x.cursor.refusal) (moved_of f).0 ∙ arrive_all_refusal ls (begun at)))
      go (refuse n p) f = rw ((stops_of f).0, (stops_of f).2)

  pub rows_left : length r.table ≡ 5 * row_width
  rows_left = ap (λ (x : ReadState). length x.table) e ∙ run_length SqlMapping s (begun at)

  pub stop_right : (r.cursor.refusal ≡ 0 → ⊥) → refuse r.cursor.refusal r.cursor.at ≡ sql_text s at size
  stop_right h = refused s at size small r.cursor.refusal r.cursor.at (stop_read h)

  module _ (u : Bytes s) (z : r.cursor.refusal ≡ 0) where
    was_read : (ls : List Leaf) × (end : ℕ) × (read SqlMapping s at ≡ ok ls end) × (r ≡ arrive_all ls (begun at)) × (r.cursor.at ≡ end)
    was_read = go (read SqlMapping s at) followed refl
      where
        go : (o : Outcome ℕ (List Leaf)) → Follows (begun at) r o → read SqlMapping s at ≡ o
            → (ls : List Leaf) × (end : ℕ) × (read SqlMapping s at ≡ ok ls end) × (r ≡ arrive_all ls (begun at)) × (r.cursor.at ≡ end)
        go (ok ls end) f q = (ls, end, q, (moved_of f).0, (moved_of f).1)
        go (refuse n p) f q = absurd ((stops_of f).1 (sym (stops_of f).0 ∙ z))

    pub other_right : (get_or s at 0 ≡ 1 → ⊥) → (get_or s at 0 ≡ 3 → ⊥) → refuse 10 at ≡ sql_text s at size
    other_right h k =
        let (ls, end, q, m, l) = was_read in
        let f = first s u at ls end q in
        other s at size small ls end q (λ x. h (sym f ∙ x)) (λ x. k (sym f ∙ x))

    pub as_begins : get_or s at 0 ≡ 1 → at + 5 ≤ r.cursor.at
    as_begins h = let (ls, end, q, m, l) = was_read in omega (arith, as_ends s u at ls end q h)

    pub as_right : get_or s at 0 ≡ 1 → Right s at size (sized_for size (Stored (record { start = at + 5; len = r.cursor.at - (at + 5) })))
    as_right h =
        let (ls, end, q, m, l) = was_read in
        let f = first s u at ls end q ∙ h in
        let k : at + 5 + (r.cursor.at - (at + 5)) ≡ end = omega (arith, as_begins h) in
        sized_right s at size (Stored (record { start = at + 5; len = r.cursor.at - (at + 5) })) (good_as s at size small ls end q f (r.cursor.at - (at + 5)) k)

    pub numeric_right : get_or s at 0 ≡ 3 → (p q : Option ℕ) → option_of p ≡ number_if (value_at r.table 1) (value_at r.table 2)
        → option_of q ≡ number_if (value_at r.table 3) (value_at r.table 4) → Right s at size (sized_for size (Numeric' p q))
    numeric_right h p q hp hq =
        let (ls, end, i, m, l) = was_read in
        let (x₁, x₂, x₃, x₄, k) = numeric_leaves s u at ls end i h in
        let (v₁, v₂, v₃, v₄) = values at ls x₁ x₂ x₃ x₄ r k m in
        sized_right s at size (Numeric' p q) (good_numeric s at size small ls end i (first s u at ls end i ∙ h) p q (hp ∙ rw (v₁, v₂)) (hq ∙ rw (v₃, v₄)))

-- A text at the start of a buffer that has room for it
pub pasted_start : (buffer text : List ℕ) → length text ≤ length buffer → pasted buffer 0 text ≡ text ++ drop (length text) buffer
unfolding pasted
pasted_start buffer text h = rw (zero-add, le-leb (length text) (length buffer) h)

-- A text in the section, as an answer
pub stored_answer : (start len : ℕ) (o : Outcome ℕ SqlText) → ok (in_section start) (start + len) ≡ o → record { number = 0; place = 0; buffered = false; begin = start; len = len } ≡ sql_answer o
stored_answer start len o e =
    let l : len ≡ start + len - start = omega arith in
    ap (λ (n : ℕ). record { number = 0; place = 0; buffered = false; begin = start; len = n }) l ∙ ap sql_answer e

pub as_part : AsPart
as_part s small u at t end e buffer =
    let ls = plain Tag 1 ∷ string t ∷ [] in
    let m : at + 5 + (end - (at + 5)) ≡ end = omega (arith, as_ends s u at ls end e (sym (first s u at ls end e))) in
    let o : sql_text s at numeric_size ≡ ok (in_section (at + 5)) end = good_as s at numeric_size small ls end e refl (end - (at + 5)) m ∙ ap (ok (in_section (at + 5))) m in
    let (v, p, q, (a, b)) = read_sound SqlMapping s u at ls end e in
    let k : bytes_of (leaves SqlMapping v) ≡ (1 ∷ four (length t)) ++ t = rw (q, append-nil t) in
    let l : end - (at + 5) ≡ length t = omega (arith, b, ap length k) in
    let d : drop (at + 5) s ≡ t ++ drop end s = rest_after s at (1 ∷ four (length t)) (t ++ drop end s) (a ∙ rw k) in
    rw (o, l, d) (take-append_seam t (drop end s))

-- Where a Numeric text ends in the buffer
numeric_end : (s : List ℕ) (at size : ℕ) (t : List ℕ) (end : ℕ) → sql_text s at size ≡ ok (in_buffer t) end → end ≡ length t
unfolding sql_text
numeric_end s at size t end e = given (leb (length s) limit) e
  where
    Gives : Outcome ℕ SqlText → Type 0
    Gives o = o ≡ ok (in_buffer t) end

    chosen : (b : Bool) (ls : List Leaf) (k : ℕ) → Gives (cond b (ok (in_section (at + 5)) k) (ok (in_buffer (text_of_leaves ls)) (length (text_of_leaves ls)))) → end ≡ length t
    chosen true ls k q = let z : ◌≡◌ {A = ℕ} 0 1 = cc in absurd (omega arith)
    chosen false ls k q =
        let a : text_of_leaves ls ≡ t = cc in
        let b : length (text_of_leaves ls) ≡ end = cc in
        sym b ∙ ap length a

    fitting : (b : Bool) (ls : List Leaf) (k : ℕ) → Gives (need b 17 0 (sql_text_of at ls k)) → end ≡ length t
    fitting true ls k q = chosen (eqb (value_in ls 0) 1) ls k q
    fitting false ls k q = let z : ◌≡◌ {A = ℕ} 0 1 = cc in absurd (omega arith)

    gone : (o : Outcome ℕ (List Leaf)) → Gives (o >>= λ ls k. need (eqb size numeric_size) 17 0 (sql_text_of at ls k)) → end ≡ length t
    gone (ok ls k) q = fitting (eqb size numeric_size) ls k q
    gone (refuse n p) q = let z : ◌≡◌ {A = ℕ} 0 1 = cc in absurd (omega arith)

    given : (b : Bool) → Gives (need b 1 0 (read TextMapping s at >>= λ ls k. need (eqb size numeric_size) 17 0 (sql_text_of at ls k))) → end ≡ length t
    given true q = gone (read TextMapping s at) q
    given false q = let z : ◌≡◌ {A = ℕ} 0 1 = cc in absurd (omega arith)

pub filled_part : FilledPart
filled_part s at size t end e buffer =
    let l : end ≡ length t = numeric_end s at size t end e in
    rw (e, l) (take-append_seam t (drop (length t) buffer))
