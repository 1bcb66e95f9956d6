-- Measuring and writing meet their contracts in terms of what the rows spell, for every form.
use Prim.Native.Nat.{ℕ, ◌≤◌}
use native.Mathlib.Omega.{arith}
use mathlib.Core.Bool.{Bool, true, false}
use mathlib.Core.List.{List}
use mathlib.Core.Logic.{◌↔◌}
use mathlib.Core.Path.{◌≡◌, refl, sym, ap, subst, ◌∙◌}
use lib.Dec.{leb}
use lib.ListN.{length}
use borrow.Author.Tests.{leb-true, leb-false, le-leb, lt-leb}
use Rattle.layout.specs.Layout.{Layout}
use Rattle.layout.specs.Reading.{Outcome, ok, refuse, ◌>>=◌, need, walk}
use Rattle.layout.specs.Answers.{limit, whole_rows}
use Rattle.layout.proofs.Walk.{All, given, all_bind, all_need, all_ok, all_when}
use Rattle.table.specs.Answers.{counted, uncounted}
use Rattle.writing.specs.Rows.{in_rows, good_rows}
use Rattle.writing.specs.Writing.{wholly, spelled, measured_as, within, measured, write, length_in, written}
use Rattle.writing.specs.Refusals.{Form, alone, Spells, GoodTexts, Writable, WriteRefusal, not_spelled, bad_text, too_long, no_space, ExactLength, ExactWriting}
use Rattle.writing.specs.Theorems.{WriteExact, WriteRefused, LengthExact, WritingExact}
use Rattle.writing.proofs.Spelled.{Takes, spelled_complete, spelled_sound, spelled_refused, goods, all_good, not_all_good, takes_alone, spells_proper}

-- The answer is that of the writing
counted_is : (o : Outcome ℕ (List ℕ)) (n : ℕ) → length_in o ≡ counted n → (b : List ℕ) × (o ≡ ok b n)
counted_is (ok b k) n e = (b, cc)
counted_is (refuse k p) n e = let z : ◌≡◌ {A = ℕ} 0 1 = cc in absurd (omega arith)

refused_is : (o : Outcome ℕ (List ℕ)) (n p : ℕ) → length_in o ≡ uncounted n p → o ≡ refuse n p
refused_is (ok b k) n p e = let z : ◌≡◌ {A = ℕ} 0 1 = cc in absurd (omega arith)
refused_is (refuse k q) n p e = cc

module _ (F : Form) (rows text : List ℕ) (taken : Outcome ℕ F.Content) where
  -- What is measured, and what is written
  abbrev pub measured_by : Outcome ℕ (List ℕ)
  measured_by = measured_as F.bytes rows text (wholly rows taken)

  abbrev pub written_by : (size : ℕ) → Outcome ℕ (List ℕ)
  written_by size = within size measured_by

  -- Measuring is writing to a destination of the limit's size
  measured_small : All (λ b n. n ≤ limit) measured_by
  unfolding measured_as
  measured_small =
      all_bind (wholly rows taken) _ (all_when _ λ v end e. e) λ v end e.
      all_need (good_rows rows text (whole_rows rows)) 15 0 _ λ f.
      all_need (leb (length (F.bytes v)) limit) 16 0 _ λ g. given (leb-true _ _ g)

  measured_written : length_in measured_by ≡ length_in (written_by limit)
  unfolding within
  measured_written = go measured_by measured_small
    where
      go : (m : Outcome ℕ (List ℕ)) → All (λ b n. n ≤ limit) m → length_in m ≡ length_in (m >>= λ b n. need (leb n limit) 17 0 (ok b n))
      go (ok b n) h = rw (le-leb n limit (all_ok h refl))
      go (refuse n p) h = refl

  -- What the rows make of a value, once it is known that they spell it
  abbrev rest : (size : ℕ) → F.Content → Outcome ℕ (List ℕ)
  rest size v =
      need (good_rows rows text (whole_rows rows)) 15 0
      (need (leb (length (F.bytes v)) limit) 16 0 (ok (F.bytes v) (length (F.bytes v)))) >>= λ x n. need (leb n size) 17 0 (ok x n)

  module _ (k : Takes F rows text taken) (size : ℕ) where
    -- The outcome of a writing
    data Judged : Outcome ℕ (List ℕ) → Type 0 where
      writes : {b : List ℕ} {n : ℕ} → (v : F.Content) × Writable F rows text v × (b ≡ F.bytes v) × (n ≡ length b) × (n ≤ size) → Judged (ok b n)
      refuses : {n p : ℕ} → WriteRefusal F rows text size n × (p ≡ 0) → Judged (refuse n p)

    wrote : {b : List ℕ} {n : ℕ} → Judged (ok b n) → (v : F.Content) × Writable F rows text v × (b ≡ F.bytes v) × (n ≡ length b) × (n ≤ size)
    wrote (writes h) = h

    refusing : {n p : ℕ} → Judged (refuse n p) → WriteRefusal F rows text size n × (p ≡ 0)
    refusing (refuses h) = h

    sized : (v : F.Content) → Spells F rows text v → GoodTexts rows text → (a b : Bool) → leb (length (F.bytes v)) limit ≡ a → leb (length (F.bytes v)) size ≡ b
        → Judged (need a 16 0 (ok (F.bytes v) (length (F.bytes v))) >>= λ x n. need (leb n size) 17 0 (ok x n))
    sized v s g true true e f = rw f (writes (v, record { spells = s; texts = g; small = leb-true _ _ e }, refl, refl, leb-true _ _ f))
    sized v s g true false e f = rw f (refuses (no_space v s g (leb-true _ _ e) (leb-false _ _ f), refl))
    sized v s g false b e f = refuses (too_long v s g (leb-false _ _ e), refl)

    texted : (v : F.Content) → Spells F rows text v → (a : Bool) → good_rows rows text (whole_rows rows) ≡ a
        → Judged (need a 15 0 (need (leb (length (F.bytes v)) limit) 16 0 (ok (F.bytes v) (length (F.bytes v)))) >>= λ x n. need (leb n size) 17 0 (ok x n))
    texted v s true e = sized v s (goods rows text e) (leb (length (F.bytes v)) limit) (leb (length (F.bytes v)) size) refl refl
    texted v s false e = let (i, h, j, g) = not_all_good rows text e in refuses (bad_text v i s h j g, refl)

    judged : Judged (written_by size)
    unfolding within measured_as
    judged = go (wholly rows taken) refl (spelled_sound F rows text taken k)
      where
        go : (m : Outcome ℕ F.Content) → wholly rows taken ≡ m → All (λ v end. Spells F rows text v) m
            → Judged ((m >>= λ v end. need (good_rows rows text (whole_rows rows)) 15 0 (need (leb (length (F.bytes v)) limit) 16 0 (ok (F.bytes v) (length (F.bytes v))))) >>= λ x n. need (leb n size) 17 0 (ok x n))
        go (ok v end) e h = texted v (all_ok h refl) (good_rows rows text (whole_rows rows)) refl
        go (refuse n p) e h =
            let (a, b) = spelled_refused rows taken n p e in
            rw (a, b) (refuses (not_spelled (λ v s. let q = spelled_complete F rows text taken k v s in let z : ◌≡◌ {A = ℕ} 0 1 = cc in omega arith), refl))

    spelled_write : (v : F.Content) → Spells F rows text v → written_by size ≡ rest size v
    unfolding within measured_as
    spelled_write v s = rw (spelled_complete F rows text taken k v s)

    refusal_write : (n : ℕ) → WriteRefusal F rows text size n → written_by size ≡ refuse n 0
    unfolding within measured_as
    refusal_write n (not_spelled h) = go (wholly rows taken) refl (spelled_sound F rows text taken k)
      where
        go : (m : Outcome ℕ F.Content) → wholly rows taken ≡ m → All (λ v end. Spells F rows text v) m
            → ((m >>= λ v end. need (good_rows rows text (whole_rows rows)) 15 0 (need (leb (length (F.bytes v)) limit) 16 0 (ok (F.bytes v) (length (F.bytes v))))) >>= λ x n. need (leb n size) 17 0 (ok x n)) ≡ refuse 14 0
        go (ok v end) e j = absurd (h v (all_ok j refl))
        go (refuse a b) e j = let (x, y) = spelled_refused rows taken a b e in rw (x, y)
    refusal_write n (bad_text v i s h j g) = spelled_write v s ∙ go (good_rows rows text (whole_rows rows)) refl
      where
        go : (a : Bool) → good_rows rows text (whole_rows rows) ≡ a
            → (need a 15 0 (need (leb (length (F.bytes v)) limit) 16 0 (ok (F.bytes v) (length (F.bytes v)))) >>= λ x n. need (leb n size) 17 0 (ok x n)) ≡ refuse 15 0
        go true e = absurd (g (goods rows text e i h j))
        go false e = refl
    refusal_write n (too_long v s g l) = spelled_write v s ∙ rw (all_good rows text g, lt-leb _ _ l)
    refusal_write n (no_space v s g l j) = spelled_write v s ∙ rw (all_good rows text g, le-leb _ _ l, lt-leb _ _ j)

    pub writes_all : (v : F.Content) → Writable F rows text v → length (F.bytes v) ≤ size → written_by size ≡ ok (F.bytes v) (length (F.bytes v))
    writes_all v w h = spelled_write v w.spells ∙ rw (all_good rows text w.texts, le-leb (length (F.bytes v)) limit w.small, le-leb (length (F.bytes v)) size h)

    pub writes_only : (b : List ℕ) (n : ℕ) → written_by size ≡ ok b n → (v : F.Content) × Writable F rows text v × (b ≡ F.bytes v) × (n ≡ length b) × (n ≤ size)
    writes_only b n e = wrote (subst Judged e judged)

    pub refuses_exact : (n p : ℕ) → (written_by size ≡ refuse n p) ↔ (WriteRefusal F rows text size n × (p ≡ 0))
    refuses_exact n p = (λ e. refusing (subst Judged e judged), λ h. rw h.1 (refusal_write n h.0))

    accepts : (n : ℕ) → (length_in (written_by size) ≡ counted n) ↔ ((v : F.Content) × Writable F rows text v × (n ≡ length (F.bytes v)) × (n ≤ size))
    accepts n = (only, λ h. let (v, w, e, f) = h in rw (writes_all v w (omega arith)) (ap counted (sym e)))
      where
        only : length_in (written_by size) ≡ counted n → (v : F.Content) × Writable F rows text v × (n ≡ length (F.bytes v)) × (n ≤ size)
        only e =
            let (b, z) = counted_is (written_by size) n e in
            let (v, w, x, y, fits) = writes_only b n z in
            (v, w, y ∙ ap length x, fits)

    answers_refused : (n p : ℕ) → (length_in (written_by size) ≡ uncounted n p) ↔ (WriteRefusal F rows text size n × (p ≡ 0))
    answers_refused n p = (λ e. (refuses_exact n p).0 (refused_is _ n p e), λ h. rw ((refuses_exact n p).1 h))

  module _ (k : Takes F rows text taken) (proper : (v : F.Content) → Writable F rows text v → F.Proper v) where
    pub length_exact : ExactLength F rows text (length_in measured_by)
    length_exact = record {
      accepts = λ n. (
        (λ e. let (v, w, q, f) = (accepts k limit n).0 (sym measured_written ∙ e) in (v, w, q)),
        λ h. let (v, w, q) = h in measured_written ∙ (accepts k limit n).1 (v, w, q, omega (arith, w.small)),
      );
      refuses = λ n p. (
        (λ e. (answers_refused k limit n p).0 (sym measured_written ∙ e)),
        λ h. measured_written ∙ (answers_refused k limit n p).1 h,
      );
      proper = proper;
    }

    pub writing_exact : (dest : List ℕ) → ExactWriting F rows text dest (length_in (written_by (length dest))) (written (written_by (length dest)) dest)
    writing_exact dest = record {
      accepts = accepts k (length dest);
      stores = λ v w h. rw (writes_all k (length dest) v w h);
      refuses = answers_refused k (length dest);
      keeps = λ n p e. rw (refused_is (written_by (length dest)) n p e);
      proper = proper;
    }

-- One value of a layout
pub proper_alone : (L : Layout) (rows text : List ℕ) (v : (alone L).Content) → Writable (alone L) rows text v → (alone L).Proper v
proper_alone L rows text v w = spells_proper L rows text v w.spells w.texts w.small

pub write_exact : WriteExact
unfolding write measured spelled
write_exact L rows text size b n =
    let taken = walk (in_rows rows text) L 0 in
    let k = takes_alone L rows text in (
      writes_only (alone L) rows text taken k size b n,
      λ h. let (v, w, x, y, fits) = h in
          let e : n ≡ length ((alone L).bytes v) = y ∙ ap length x in
          writes_all (alone L) rows text taken k size v w (omega arith) ∙ rw (x, e),
    )

pub write_refused : WriteRefused
unfolding write measured spelled
write_refused L rows text size n p = refuses_exact (alone L) rows text _ (takes_alone L rows text) size n p

pub exact_length : LengthExact
unfolding measured spelled
exact_length L rows text = length_exact (alone L) rows text _ (takes_alone L rows text) (proper_alone L rows text)

pub exact_writing : WritingExact
unfolding write measured spelled
exact_writing L rows text dest = writing_exact (alone L) rows text _ (takes_alone L rows text) (proper_alone L rows text) dest
