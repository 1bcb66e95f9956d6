-- The answer of a reading from the start is that of the reading of one value alone.
use Prim.Native.Nat.{ℕ, ◌*◌, ◌/◌, ◌≤◌, ◌<◌}
use native.Mathlib.Omega.{arith}
use mathlib.Core.Bool.{Bool, true, false, cond}
use mathlib.Core.List.{List}
use mathlib.Core.Path.{◌≡◌, refl, sym, ap, ◌∙◌}
use lib.Dec.{leb, ltb, eqb}
use lib.ListN.{length, take}
use borrow.Author.Tests.{eq-eqb, ne_eqb, le-leb, lt-leb, lt-ltb, le-ltb, leb-true, leb-false}
use Rattle.layout.specs.Layout.{Sort, Leaf, plain, string, Layout}
use Rattle.layout.specs.Written.{row_width}
use Rattle.layout.specs.Reading.{Outcome, ok, refuse, ◌>>=◌, need, plain_at, text_at, read}
use Rattle.layout.specs.Answers.{limit, Result, Given, whole_rows, acceptance, refusal}
use Rattle.layout.specs.Alone.{given, ExactAlone}
use Rattle.layout.specs.ReadAlone.{through_table, read_alone, reading_alone}
use Rattle.layout.specs.Theorems.{Bytes}
use Rattle.layout.proofs.Alone.{alone_exact}
use Rattle.layout.proofs.Forms.{drive_kept}
use Rattle.reading.specs.State.{Cursor, ReadState, read_state, new_cursor, stopped, refused_once, finished_at, stop, arrive, guarded, read_plain, read_text}
use Rattle.reading.specs.Run.{reader, run}
use Rattle.reading.specs.Answered.{answered, answered_alone}
use Rattle.reading.specs.Theorems.{arrive_all, Follows, RunAlone}
use Rattle.reading.proofs.Still.{Refused}
use Rattle.reading.proofs.Table.{arrive_length, arrive_all_length, fills, counts}
use Rattle.reading.proofs.Reading.{arrive_all_refusal, moved_of, stops_of, run_read}

-- No reading changes the table's length
guarded_length : (s : List ℕ) (o : Outcome ℕ Leaf) (st : ReadState) → length (guarded s (arrive o st) st).table ≡ length st.table
unfolding guarded
guarded_length s o st = go (eqb st.cursor.refusal 0) (leb (length s) limit)
  where
    go : (a b : Bool) → length (cond a (cond b (arrive o st) (stop 1 0 st)) st).table ≡ length st.table
    go true true = arrive_length o st
    go true false = refl
    go false b = refl

plain_length : (srt : Sort) (s : List ℕ) (st : ReadState) → length (read_plain srt s st).table ≡ length st.table
unfolding read_plain
plain_length srt s st = guarded_length s (plain_at s srt st.cursor.at >>= λ n next. ok (plain srt n) next) st

text_length : (s : List ℕ) (st : ReadState) → length (read_text s st).table ≡ length st.table
unfolding read_text
text_length s st = guarded_length s (text_at s st.cursor.at >>= λ t next. ok (string t) next) st

pub run_length : (L : Layout) (s : List ℕ) (st : ReadState) → length (run L s st).table ≡ length st.table
run_length L s st =
    drive_kept (reader s) (λ (x : ReadState). length x.table) (record { plainly = λ srt x. plain_length srt s x; textly = text_length s; halted = λ f begin x. refl }) L st

-- Refusals for tables of the same length are the same
refusal_same : (n p : ℕ) (t u : List ℕ) → length t ≡ length u → refusal n p t ≡ refusal n p u
refusal_same n p t u e = rw e

-- A refused cursor is refused at the end too
pub finished_refused : (end : ℕ) (c : Cursor) → (c.refusal ≡ 0 → ⊥) → finished_at end c ≡ c
finished_refused end c h = go (ltb c.at end)
  where
    go : (b : Bool) → cond b (refused_once 12 c.at c) c ≡ c
    go true = rw (ne_eqb c.refusal 0 h)
    go false = refl

module _ (entities : ℕ) (st : ReadState) where
  pub answered_refused : Refused st → answered entities st ≡ refusal st.cursor.refusal st.cursor.at st.table
  unfolding answered
  answered_refused h = rw (ne_eqb _ _ h)

  module _ (z : st.cursor.refusal ≡ 0) where
    answered_short : whole_rows st.table < st.cursor.rows → answered entities st ≡ refusal 13 0 st.table
    unfolding answered
    answered_short h = rw (eq-eqb _ _ z, lt-leb st.cursor.rows (whole_rows st.table) h)

    answered_whole : st.cursor.rows ≤ whole_rows st.table
        → answered entities st ≡ acceptance (record { entities = entities; leaf_count = st.cursor.rows; rows = take (row_width * st.cursor.rows) st.table }) st.table
    unfolding answered
    answered_whole h = rw (eq-eqb _ _ z, le-leb st.cursor.rows (whole_rows st.table) h)

-- The state at the end has stored what is given, or has counted more rows than the table has: its answer is that through the
-- table it began with
pub answered_told : (g : Given) (end : ℕ) (table : List ℕ) (st : ReadState) → st.cursor.refusal ≡ 0 → length st.table ≡ length table
    → (g.leaf_count ≤ whole_rows table → (st.cursor.rows ≡ g.leaf_count) × (take (row_width * st.cursor.rows) st.table ≡ g.rows))
    → (whole_rows table < g.leaf_count → whole_rows table < st.cursor.rows)
    → answered g.entities st ≡ through_table (ok g end) table
answered_told g end table st z l fit over = go (leb g.leaf_count (whole_rows table)) refl
  where
    go : (b : Bool) → leb g.leaf_count (whole_rows table) ≡ b → answered g.entities st ≡ cond b (acceptance g table) (refusal 13 0 table)
    go true e =
        let k : g.leaf_count ≤ whole_rows table = leb-true _ _ e in
        let (r, f) = fit k in
        answered_whole g.entities st z (omega (arith, r, ap (λ (n : ℕ). n / row_width) l)) ∙ rw (f, r, l)
    go false e =
        let k = over (leb-false _ _ e) in
        answered_short g.entities st z (omega (arith, k, ap (λ (n : ℕ). n / row_width) l)) ∙ refusal_same 13 0 st.table table l

module _ (entities : ℕ) (s : List ℕ) (st : ReadState) where
  alone_long : limit < length s → answered_alone entities s st ≡ refusal 1 0 st.table
  unfolding answered_alone
  alone_long h = rw (lt-leb (length s) limit h)

  alone_short : length s ≤ limit → answered_alone entities s st ≡ answered entities (read_state (finished_at (length s) st.cursor) st.table)
  unfolding answered_alone
  alone_short h = rw (le-leb (length s) limit h)

module _ (entities : ℕ) (s table : List ℕ) (small : length s ≤ limit) where
  -- The rest of the reading alone, after `read`
  abbrev ended : Outcome ℕ (List Leaf) → Result
  ended o = through_table (o >>= λ ls end. need (leb (length s) end) 12 end (ok (given entities ls) end)) table

  -- The result of a state once the end is tested
  through : (ls : List Leaf) (next : ℕ) (b : Bool) → leb (length s) next ≡ b → (arrive_all ls (read_state new_cursor table)).cursor.at ≡ next
      → answered_alone entities s (arrive_all ls (read_state new_cursor table)) ≡ through_table (need b 12 next (ok (given entities ls) next)) table
  through ls next true e q =
      let st = read_state new_cursor table in
      let r = arrive_all ls st in
      let k : length s ≤ next = leb-true _ _ e in
      let d : finished_at (length s) r.cursor ≡ r.cursor = rw (le-ltb r.cursor.at (length s) (omega (arith, q))) in
      alone_short entities s r small ∙ ap (λ (c : Cursor). answered entities (read_state c r.table)) d
      ∙ answered_told (given entities ls) next table r (arrive_all_refusal ls st) (arrive_all_length ls st)
      (λ k. let f = fills ls st (omega arith) in (f.rows ∙ omega arith, f.front)) (λ k. omega (arith, counts ls st))
  through ls next false e q =
      let st = read_state new_cursor table in
      let r = arrive_all ls st in
      let k : next < length s = leb-false (length s) next e in
      let d : finished_at (length s) r.cursor ≡ stopped 12 next r.cursor = rw (q, lt-ltb next (length s) k, eq-eqb _ _ (arrive_all_refusal ls st)) in
      alone_short entities s r small ∙ ap (λ (c : Cursor). answered entities (read_state c r.table)) d
      ∙ answered_refused entities (stop 12 next r) (λ w. omega arith) ∙ refusal_same 12 next r.table table (arrive_all_length ls st)

  by_outcome : (o : Outcome ℕ (List Leaf)) (r : ReadState) → Follows (read_state new_cursor table) r o → answered_alone entities s r ≡ ended o
  by_outcome (ok ls next) r h =
      let (e, q) = moved_of h in
      ap (answered_alone entities s) e ∙ through ls next (leb (length s) next) refl (sym (ap (λ (x : ReadState). x.cursor.at) e) ∙ q)
  by_outcome (refuse n p) r h =
      let (e, z, q, l) = stops_of h in
      let w : Refused r = λ w. z (sym e ∙ w) in
      alone_short entities s r small ∙ ap (λ (c : Cursor). answered entities (read_state c r.table)) (finished_refused (length s) r.cursor w)
      ∙ answered_refused entities r w ∙ rw (e, q, l)

pub run_alone : RunAlone
unfolding reading_alone read_alone
run_alone L entities s table = go (leb (length s) limit) refl
  where
    go : (b : Bool) → leb (length s) limit ≡ b → answered_alone entities s (run L s (read_state new_cursor table)) ≡ through_table (need b 1 0 (read L s 0 >>= λ ls end. need (leb (length s) end) 12 end (ok (given entities ls) end))) table
    go true e = by_outcome entities s table (leb-true _ _ e) (read L s 0) (run L s (read_state new_cursor table)) (run_read s (leb-true _ _ e) L (read_state new_cursor table) refl)
    go false e = alone_long entities s (run L s (read_state new_cursor table)) (leb-false _ _ e) ∙ refusal_same 1 0 (run L s (read_state new_cursor table)).table table (run_length L s (read_state new_cursor table))

-- The contract of a function that reads one value alone, from its three calls
pub decoded : (L : Layout) (entities : ℕ) (s table : List ℕ) (c : Cursor) (st : ReadState) (r : Result) → Bytes s
    → c ≡ new_cursor → st ≡ run L s (read_state c table) → r ≡ answered_alone entities s st
    → (r ≡ reading_alone L entities s table) × ExactAlone L entities s table r
decoded L entities s table c st r u a b e =
    let q : r ≡ reading_alone L entities s table = e ∙ rw (b, a) (run_alone L entities s table) in
    (q, rw q (alone_exact L entities s u table))
