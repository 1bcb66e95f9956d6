-- A writing from the first row on: its result in terms of the rows, and its length at the end.
use Prim.Native.Nat.{ℕ, suc, ◌+◌, ◌*◌, ◌<◌}
use native.Mathlib.Nat.{add-zero}
use native.Mathlib.Omega.{arith}
use mathlib.Core.Bool.{Bool, true, false, cond, ◌&&◌, and-true, and-false, and-eq-true_iff}
use mathlib.Core.List.{List, [], ◌∷◌}
use mathlib.Core.Path.{◌≡◌, refl, sym, ap, subst, ◌∙◌}
use lib.Dec.{eqb, ltb, leb}
use lib.ListN.{length, length-append}
use borrow.Author.Tests.{eqb-true, eqb-false, eq-eqb, ne_eqb, lt-leb, leb-false}
use Rattle.layout.specs.Layout.{Sort, Leaf, plain, string, Layout, Value, leaves, Meets, bound}
use Rattle.layout.specs.Written.{text_sort, leaf_bytes, bytes_of, bytes, row_width, sort_number, sort_at, value_at}
use Rattle.layout.specs.Reading.{Outcome, ok, refuse, ◌>>=◌, need, walk, leaves_at, utf8}
use Rattle.layout.specs.Answers.{limit, whole_rows}
use Rattle.layout.proofs.Walk.{All, all_ok}
use Rattle.layout.proofs.Follow.{Gait, Keeps, push_all, Follows, moved, stops, moved_of, stops_of, follow}
use Rattle.table.specs.Answers.{counted, uncounted}
use Rattle.writing.specs.Rows.{is_row, plain_in, lent_at, text_in, in_rows, stays_at, good_at, good_rows}
use Rattle.writing.specs.Writing.{fourteen, wholly, measured_as, length_in}
use Rattle.writing.specs.Refusals.{RowGives, Sized}
use Rattle.writing.specs.State.{new_writer, stopped_writer, stopped_once, past, length_taken, arrive_plain, past_text, arrive_text, consume_plain, consume_text}
use Rattle.writing.specs.State.{WriteState}
use Rattle.writing.specs.Run.{writer, consume, closing}
use Rattle.writing.proofs.Still.{goes_on, writer_still, run_refused}
use Rattle.writing.proofs.Spelled.{plain_not_text, Given, Begins, whole_rows_lem, walk_sound}

-- A length, or one more than the limit if it is above the limit
abbrev stopped : (length : ℕ) → ℕ
stopped length = cond (leb length limit) length (limit + 1)

stopped_add : (a n : ℕ) → stopped (stopped a + n) ≡ stopped (a + n)
stopped_add a n = go (leb a limit) refl
  where
    go : (b : Bool) → leb a limit ≡ b → stopped (cond b a (limit + 1) + n) ≡ stopped (a + n)
    go true e = refl
    go false e = let h : limit < a = leb-false a limit e in rw (lt-leb (limit + 1 + n) limit (omega arith), lt-leb (a + n) limit (omega arith))

module _ (rows text : List ℕ) where
  -- The writer finds a text good
  abbrev passes : List ℕ → WriteState → Bool
  passes t w = stays_at rows text w.row && utf8 t

  -- A leaf is taken from the writer's next row
  abbrev push : Leaf → WriteState → WriteState
  push (plain srt n) w = past n (length (leaf_bytes (plain srt n))) w
  push (string t) w = past_text (passes t w) t w

  -- How a writer moves through rows
  abbrev gait : Gait (in_rows rows text) WriteState
  gait = record {
    at = λ w. w.row;
    Going = λ w. w.refusal ≡ 0;
    push = push;
    Stops = λ w r n p. r.refusal ≡ 14;
  }

  text_refusal : (b : Bool) (t : List ℕ) (w : WriteState) → (past_text b t w).refusal ≡ w.refusal
  text_refusal true t w = refl
  text_refusal false t w = refl

  text_row : (b : Bool) (t : List ℕ) (w : WriteState) → (past_text b t w).row ≡ w.row + 1
  text_row true t w = refl
  text_row false t w = refl

  push_refusal : (x : Leaf) (w : WriteState) → (push x w).refusal ≡ w.refusal
  push_refusal (plain srt n) w = refl
  push_refusal (string t) w = text_refusal (passes t w) t w

  plain_follows : (srt : Sort) (w : WriteState) → w.refusal ≡ 0 → Follows gait w (consume_plain srt rows w) (plain_in rows srt w.row >>= λ n end. ok (plain srt n ∷ []) end)
  unfolding consume_plain
  plain_follows srt w z =
      subst (λ (r : WriteState). Follows gait w r (plain_in rows srt w.row >>= λ n end. ok (plain srt n ∷ []) end)) (sym (goes_on _ w z))
      (go (is_row rows w.row (sort_number srt)) (ltb (value_at rows w.row) (bound srt)))
    where
      go : (a b : Bool)
          → Follows gait w (arrive_plain srt (need a 14 0 (need b 14 0 (ok (value_at rows w.row) (w.row + 1)))) w)
          (need a 14 0 (need b 14 0 (ok (value_at rows w.row) (w.row + 1))) >>= λ n end. ok (plain srt n ∷ []) end)
      go true true = moved {ls = plain srt (value_at rows w.row) ∷ []} {next = w.row + 1} (refl, refl)
      go true false = stops refl
      go false b = stops refl

  text_follows : (w : WriteState) → w.refusal ≡ 0 → Follows gait w (consume_text rows text w) (text_in rows text w.row >>= λ t end. ok (string t ∷ []) end)
  unfolding consume_text
  text_follows w z =
      subst (λ (r : WriteState). Follows gait w r (text_in rows text w.row >>= λ t end. ok (string t ∷ []) end)) (sym (goes_on _ w z))
      (go (is_row rows w.row text_sort))
    where
      go : (a : Bool)
          → Follows gait w (arrive_text (stays_at rows text w.row) (need a 14 0 (ok (lent_at rows text w.row) (w.row + 1))) w)
          (need a 14 0 (ok (lent_at rows text w.row) (w.row + 1)) >>= λ t end. ok (string t ∷ []) end)
      go true = moved {ls = string (lent_at rows text w.row) ∷ []} {next = w.row + 1} (refl, text_row (passes (lent_at rows text w.row) w) (lent_at rows text w.row) w)
      go false = stops refl

  writer_keeps : Keeps (in_rows rows text) (writer rows text) gait
  writer_keeps = record {
    still = writer_still rows text;
    going = λ x w z. push_refusal x w ∙ z;
    value = λ srt n w. refl;
    plainly = plain_follows;
    textly = text_follows;
    verdict = λ A j w. refl;
    halts = λ f begin w z. let e : stopped_once w ≡ stopped_writer w = rw (eq-eqb w.refusal 0 z) in ap (λ r. r.refusal) e;
    stopped = λ h z. let e : ◌≡◌ {A = ℕ} 14 0 = sym h ∙ z in omega arith;
    before = λ x w r n p h. h;
  }

  -- A writing takes the leaves of the value that is read from the rows, or is refused
  writes : (L : Layout) (w : WriteState) → w.refusal ≡ 0 → Follows gait w (consume L rows text w) (leaves_at (in_rows rows text) L w.row)
  writes L w z = follow (in_rows rows text) (writer rows text) gait writer_keeps L w z

  -- A writing that is not refused took the leaves of a value
  pub taken : (L : Layout) (w : WriteState) → (consume L rows text w).refusal ≡ 0
      → (v : Value L) × (leaves_at (in_rows rows text) L w.row ≡ ok (leaves L v) (consume L rows text w).row) × Given rows text w.row (leaves L v)
  taken L w z = go (walk (in_rows rows text) L w.row) refl (walk_sound L rows text w.row) (writes L w (begun (eqb w.refusal 0) refl))
    where
      begun : (b : Bool) → eqb w.refusal 0 ≡ b → w.refusal ≡ 0
      begun true e = eqb-true _ _ e
      begun false e = sym (ap (λ (x : WriteState). x.refusal) (run_refused L rows text w (eqb-false _ _ e))) ∙ z

      go : (m : Outcome ℕ (Value L)) → walk (in_rows rows text) L w.row ≡ m → All (λ v end. Meets Sized L v × Begins rows text w.row (leaves L v) end) m
          → Follows gait w (consume L rows text w) (m >>= λ v end. ok (leaves L v) end)
          → (v : Value L) × (leaves_at (in_rows rows text) L w.row ≡ ok (leaves L v) (consume L rows text w).row) × Given rows text w.row (leaves L v)
      go (ok v end) e h f = (v, rw (e, (moved_of f).1), (all_ok h refl).1.gives)
      go (refuse n p) e h f = let k : ◌≡◌ {A = ℕ} 14 0 = sym (stops_of f) ∙ z in absurd (omega arith)

module _ (rows text : List ℕ) where
  row_after_lem : (x : Leaf) (w : WriteState) → (push rows text x w).row ≡ w.row + 1
  row_after_lem (plain srt n) w = refl
  row_after_lem (string t) w = text_row rows text (passes rows text t w) t w

  -- A row of another sort counts as good
  plain_good : (srt : Sort) (i : ℕ) → sort_at rows i ≡ sort_number srt → good_at rows text i ≡ true
  plain_good srt i e = rw (e, ne_eqb (sort_number srt) text_sort (plain_not_text srt))

  -- The writer finds a text good exactly if its row is
  found_good : (t : List ℕ) (w : WriteState) → RowGives rows text w.row (string t) → passes rows text t w ≡ good_at rows text w.row
  found_good t w g = rw (eq-eqb (sort_at rows w.row) text_sort g.0, g.1)

  -- A bad text is remembered
  bad_after : (x : Leaf) (w : WriteState) → RowGives rows text w.row x → eqb (push rows text x w).bad 0 ≡ (eqb w.bad 0 && good_at rows text w.row)
  bad_after (plain srt n) w g = rw (plain_good srt w.row g.0) (sym (and-true (eqb w.bad 0)))
  bad_after (string t) w g = go (passes rows text t w) ∙ ap (λ (b : Bool). eqb w.bad 0 && b) (found_good t w g)
    where
      go : (b : Bool) → eqb (past_text b t w).bad 0 ≡ (eqb w.bad 0 && b)
      go true = sym (and-true (eqb w.bad 0))
      go false = sym (and-false (eqb w.bad 0))

  -- The length grows by the leaf's bytes
  pos_after : (x : Leaf) (w : WriteState) → RowGives rows text w.row x → good_at rows text w.row ≡ true → (push rows text x w).pos ≡ stopped (w.pos + length (leaf_bytes x))
  pos_after (plain srt n) w g h = refl
  pos_after (string t) w g h = ap (λ (b : Bool). (past_text b t w).pos) (found_good t w g ∙ h)

  -- A writer after rows that take n bytes, if they are good
  pub record Stands (w : WriteState) (n : ℕ) : Type 0 where
    pub going : w.refusal ≡ 0
    pub texts : eqb w.bad 0 ≡ good_rows rows text w.row
    pub pos : good_rows rows text w.row ≡ true → w.pos ≡ stopped n

  push_stands : (x : Leaf) (w : WriteState) (n : ℕ) → Stands w n → RowGives rows text w.row x → Stands (push rows text x w) (n + length (leaf_bytes x))
  push_stands x w n s g =
      let i = w.row in
      let r : (push rows text x w).row ≡ suc i = row_after_lem x w ∙ omega arith in
      record {
        going = push_refusal rows text x w ∙ s.going;
        texts = rw r (bad_after x w g ∙ ap (λ (b : Bool). b && good_at rows text i) s.texts);
        pos = λ h. let (a, b) = (and-eq-true_iff (good_rows rows text i) (good_at rows text i)).0 (rw r at h) in pos_after x w g b ∙ rw (s.pos a) (stopped_add n (length (leaf_bytes x)));
      }

  stands_all : (ls : List Leaf) (w : WriteState) (n : ℕ) → Stands w n → Given rows text w.row ls → Stands (push_all (push rows text) ls w) (n + length (bytes_of ls))
  stands_all [] w n s g = rw (add-zero n) s
  stands_all (x ∷ ls) w n s g =
      let e : n + length (leaf_bytes x) + length (bytes_of ls) ≡ n + length (bytes_of (x ∷ ls)) = omega (arith, length-append (leaf_bytes x) (bytes_of ls)) in
      subst (Stands (push_all (push rows text) (x ∷ ls) w)) e
      (stands_all ls (push rows text x w) (n + length (leaf_bytes x)) (push_stands x w n s g.0.1) (rw (row_after_lem x w) g.1))

  -- And after the length of an entry
  pub stands_length : (w : WriteState) (n : ℕ) → Stands w n → Stands (length_taken w) (n + 4)
  stands_length w n s = record { going = s.going; texts = s.texts; pos = λ h. rw (s.pos h) (stopped_add n 4) }

  pub stands_new : Stands new_writer 0
  stands_new = record { going = refl; texts = refl; pos = λ h. refl }

  -- A writer after what was taken from the rows, of so many bytes
  pub data Reached {A : Type 0} (size : A → ℕ) (w : WriteState) : Outcome ℕ A → Type 0 where
    arrives : {v : A} {end : ℕ} → Stands w (size v) × (w.row ≡ end) → Reached size w (ok v end)
    halts : {n p : ℕ} → w.refusal ≡ 14 → Reached size w (refuse n p)

  pub reached_as : {A : Type 0} {f g : A → ℕ} {w : WriteState} {m : Outcome ℕ A} → ((v : A) → f v ≡ g v) → Reached f w m → Reached g w m
  reached_as {w = w} e (arrives {v} {end} h) = arrives {v = v} {end = end} (subst (Stands w) (e v) h.0, h.1)
  reached_as e (halts h) = halts h

  -- So it takes the value of a layout
  pub consumed : (L : Layout) (w : WriteState) (n : ℕ) → Stands w n → Reached (λ v. n + length (bytes L v)) (consume L rows text w) (walk (in_rows rows text) L w.row)
  consumed L w n s = go (walk (in_rows rows text) L w.row) (walk_sound L rows text w.row) (writes rows text L w s.going)
    where
      go : (m : Outcome ℕ (Value L)) → All (λ v end. Meets Sized L v × Begins rows text w.row (leaves L v) end) m → Follows (gait rows text) w (consume L rows text w) (m >>= λ v end. ok (leaves L v) end)
          → Reached (λ v. n + length (bytes L v)) (consume L rows text w) m
      go (ok v end) h f =
          let (q, r) = moved_of f in
          arrives {v = v} {end = end} (rw q (stands_all (leaves L v) w n s (all_ok h refl).1.gives), r)
      go (refuse a b) h f = halts (stops_of f)

  pub consumed_alone : (L : Layout) → Reached (λ v. length (bytes L v)) (consume L rows text new_writer) (walk (in_rows rows text) L 0)
  consumed_alone L = reached_as (λ v. omega arith) (consumed L new_writer 0 stands_new)

-- The answer at the end: 14 to 16, or the length
pub closed : {A : Type 0} (bytes : A → List ℕ) (rows text : List ℕ) (w : WriteState) (taken : Outcome ℕ A) → Reached rows text (λ v. length (bytes v)) w taken
    → closing rows w ≡ length_in (measured_as bytes rows text (wholly rows taken))
unfolding closing measured_as wholly
closed bytes rows text w taken (halts e) = rw e
closed {A} bytes rows text w taken (arrives {v} {end} (s, r)) = rw (s.going, r) (whole (eqb (row_width * end) (length rows)) refl)
  where
    fit : (a : Bool) → leb (length (bytes v)) limit ≡ a
        → cond (leb (stopped (length (bytes v))) limit) (counted (stopped (length (bytes v)))) (uncounted 16 0) ≡ length_in (need a 16 0 (ok (bytes v) (length (bytes v))))
    fit true e = rw (e, e)
    fit false e = rw e

    good : (a : Bool) → good_rows rows text w.row ≡ a
        → cond a (cond (leb w.pos limit) (counted w.pos) (uncounted 16 0)) (uncounted 15 0)
        ≡ length_in (need a 15 0 (need (leb (length (bytes v)) limit) 16 0 (ok (bytes v) (length (bytes v)))))
    good true e = rw (s.pos e) (fit (leb (length (bytes v)) limit) refl)
    good false e = refl

    whole : (a : Bool) → eqb (row_width * end) (length rows) ≡ a
        → cond a (cond (eqb w.bad 0) (cond (leb w.pos limit) (counted w.pos) (uncounted 16 0)) (uncounted 15 0)) (uncounted 14 0)
        ≡ length_in (fourteen (need a 14 0 (ok v end)) >>= λ x e.
        need (good_rows rows text (whole_rows rows)) 15 0 (need (leb (length (bytes x)) limit) 16 0 (ok (bytes x) (length (bytes x)))))
    whole true e =
        let n : whole_rows rows ≡ w.row = whole_rows_lem rows end (sym (eqb-true _ _ e)) ∙ sym r in
        rw (n, s.texts) (good (good_rows rows text w.row) refl)
    whole false e = refl
