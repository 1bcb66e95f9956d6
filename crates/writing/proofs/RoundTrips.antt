-- Reading what was written, and writing what was read.
use Prim.Native.Nat.{ℕ, zero, suc, ◌+◌, ◌-◌, ◌*◌, ◌≤◌, ◌<◌}
use native.Mathlib.Omega.{arith}
use mathlib.Core.List.{List, [], ◌∷◌, ◌++◌, append_assoc, append-nil}
use mathlib.Core.Path.{◌≡◌, refl, sym, ap, subst, ◌∙◌}
use lib.ListN.{length, get_or, take, drop, replicate, length-append, length-drop}
use lib.Seq.{length-take-le, take-append_seam, get_or-append-add}
use borrow.Author.Tests.{le-leb}
use Rattle.text.specs.Rfc3629.{Utf8}
use Rattle.layout.specs.Layout.{Leaf, plain, string, Layout, Value, leaves, Fits}
use Rattle.layout.specs.Written.{text_sort, four, leaf_bytes, bytes_of, bytes, row_width, sort_number, row_at, rows_from, sort_at, offset_at, value_at}
use Rattle.layout.specs.Reading.{ok}
use Rattle.layout.specs.Answers.{Answer, accepted, Result, whole_rows, acceptance}
use Rattle.layout.specs.Alone.{given, Derives}
use Rattle.layout.specs.ReadAlone.{reading_alone}
use Rattle.layout.proofs.Alone.{alone_complete, alone_exact}
use Rattle.layout.proofs.InBytes.{rest_after}
use Rattle.layout.proofs.Rows.{rows_length}
use Rattle.layout.proofs.Each.{Each, each_of}
use Rattle.layout.proofs.Walk.{meets_map}
use Rattle.writing.specs.Rows.{lent_at}
use Rattle.writing.specs.Writing.{write}
use Rattle.writing.specs.Refusals.{RowGives, Along, Sized, Form, alone, Spells, GoodText, GoodTexts}
use Rattle.writing.specs.Theorems.{ReadsBack, ReadWritten, WriteRead}
use Rattle.writing.proofs.Along.{along_at, along_map, along_both, along_also}
use Rattle.writing.proofs.Spelled.{plain_not_text, whole_rows_lem}
use Rattle.writing.proofs.Exact.{proper_alone, write_exact}

-- A row gives a leaf; for a text, all its bytes
abbrev pub Holds : (rows text : List ℕ) → (row : ℕ) → Leaf → Type 0
Holds rows text i (plain srt n) = RowGives rows text i (plain srt n)
Holds rows text i (string t) = (sort_at rows i ≡ text_sort) × (value_at rows i ≡ length t) × (lent_at rows text i ≡ t) × (offset_at rows i + value_at rows i ≤ length text)

abbrev pub HoldAll : (rows text : List ℕ) → (row : ℕ) → List Leaf → Type 0
HoldAll rows text = Along (Holds rows text)

-- The numbers of a row after others
module _ (before after : List ℕ) (i a b c : ℕ) (l : length before ≡ row_width * i) where
  abbrev table : List ℕ
  table = before ++ (a ∷ b ∷ c ∷ after)

  first : sort_at table i ≡ a
  first = let e : row_width * i ≡ length before + 0 = omega arith in ap (λ (k : ℕ). get_or table k 0) e ∙ get_or-append-add before (a ∷ b ∷ c ∷ after) 0 0

  second : offset_at table i ≡ b
  second = let e : row_width * i + 1 ≡ length before + 1 = omega arith in ap (λ (k : ℕ). get_or table k 0) e ∙ get_or-append-add before (a ∷ b ∷ c ∷ after) 1 0

  third : value_at table i ≡ c
  third = let e : row_width * i + 2 ≡ length before + 2 = omega arith in ap (λ (k : ℕ). get_or table k 0) e ∙ get_or-append-add before (a ∷ b ∷ c ∷ after) 2 0

-- The row of a leaf holds it, if the leaf's bytes are there
row_holds : (before after s : List ℕ) (i at : ℕ) (x : Leaf) (rest : List ℕ) → length before ≡ row_width * i → drop at s ≡ leaf_bytes x ++ rest → Holds (before ++ (row_at at x ++ after)) s i x
row_holds before after s i at (plain srt n) rest l e = (first before after i (sort_number srt) at n l, third before after i (sort_number srt) at n l)
row_holds before after s i at (string t) rest l e =
    let o = second before after i text_sort (at + 4) (length t) l in
    let v = third before after i text_sort (at + 4) (length t) l in
    let d : drop (at + 4) s ≡ t ++ rest = rest_after s at (four (length t)) (t ++ rest) (e ∙ append_assoc (four (length t)) t rest) in
    (first before after i text_sort (at + 4) (length t) l, v, rw (o, v, d) (take-append_seam t rest), rw (o, v) (omega (arith, ap length e, length-append (leaf_bytes (string t)) rest, length-drop at s)))

row_width_lem : (at : ℕ) (x : Leaf) → length (row_at at x) ≡ row_width
row_width_lem at (plain srt n) = refl
row_width_lem at (string t) = refl

-- The rows of leaves hold them
pub rows_hold : (ls : List Leaf) (before after s : List ℕ) (i at : ℕ) (rest : List ℕ) → length before ≡ row_width * i → drop at s ≡ bytes_of ls ++ rest
    → HoldAll (before ++ (rows_from at ls ++ after)) s i ls
rows_hold [] before after s i at rest l e = tt
rows_hold (x ∷ ls) before after s i at rest l e =
    let r = rows_from (at + length (leaf_bytes x)) ls in
    let f : drop at s ≡ leaf_bytes x ++ (bytes_of ls ++ rest) = e ∙ append_assoc (leaf_bytes x) (bytes_of ls) rest in
    let a : before ++ (row_at at x ++ (r ++ after)) ≡ before ++ ((row_at at x ++ r) ++ after) = ap (λ (y : List ℕ). before ++ y) (sym (append_assoc (row_at at x) r after)) in
    let b : (before ++ row_at at x) ++ (r ++ after) ≡ before ++ ((row_at at x ++ r) ++ after) = append_assoc before (row_at at x) (r ++ after) ∙ a in
    let m : length (before ++ row_at at x) ≡ row_width * (i + 1) = omega (arith, length-append before (row_at at x), row_width_lem at x) in (
      subst (λ (y : List ℕ). Holds y s i x) a (row_holds before (r ++ after) s i at x (bytes_of ls ++ rest) l f),
      subst (λ (y : List ℕ). HoldAll y s (i + 1) ls) b (rows_hold ls (before ++ row_at at x) after s (i + 1) (at + length (leaf_bytes x)) rest m (rest_after s at (leaf_bytes x) (bytes_of ls ++ rest) f)),
    )

-- Good rows that give leaves hold them
good_holds : (rows text : List ℕ) (i : ℕ) (x : Leaf) → (sort_at rows i ≡ text_sort → GoodText rows text i) → RowGives rows text i x → Holds rows text i x
good_holds rows text i (plain srt n) h g = g
good_holds rows text i (string t) h g =
    let (a, u) = h g.0 in
    let n : length (lent_at rows text i) ≡ value_at rows i = length-take-le (value_at rows i) (drop (offset_at rows i) text) (omega (arith, length-drop (offset_at rows i) text)) in
    (g.0, sym n ∙ ap length g.1, g.1, a)

holds_gives : (rows text : List ℕ) (i : ℕ) (x : Leaf) → Holds rows text i x → RowGives rows text i x
holds_gives rows text i (plain srt n) h = h
holds_gives rows text i (string t) h = (h.0, h.2)

-- A row that holds a leaf that fits is good
holds_good : (rows text : List ℕ) (i : ℕ) (x : Leaf) → Holds rows text i x × Fits x → sort_at rows i ≡ text_sort → GoodText rows text i
holds_good rows text i (plain srt n) h s = absurd (plain_not_text srt (sym h.0.0 ∙ s))
holds_good rows text i (string t) h s = (h.0.3, subst Utf8 (sym h.0.2) h.1.0)

pub fits_sized : (x : Leaf) → Fits x → Sized x
fits_sized (plain srt n) h = h
fits_sized (string t) h = tt

-- Two rows that hold the same leaf
record Alike (rows text other b : List ℕ) (i : ℕ) : Type 0 where
  sorts : sort_at other i ≡ sort_at rows i
  values : value_at other i ≡ value_at rows i
  texts : sort_at rows i ≡ text_sort → lent_at other b i ≡ lent_at rows text i

alike : (rows text other b : List ℕ) (i : ℕ) (x : Leaf) → Holds rows text i x × Holds other b i x → Alike rows text other b i
alike rows text other b i (plain srt n) (g, h) = record {
  sorts = h.0 ∙ sym g.0;
  values = h.1 ∙ sym g.1;
  texts = λ s. absurd (plain_not_text srt (sym g.0 ∙ s));
}
alike rows text other b i (string t) (g, h) = record { sorts = h.0 ∙ sym g.0; values = h.1 ∙ sym g.1; texts = λ s. h.2 ∙ sym g.2 }

-- Rows that hold the leaves of a value spell it, and their texts are good
module _ (F : Form) (rows text : List ℕ) (v : F.Content) (w : length rows ≡ row_width * length (F.leaves v)) (h : HoldAll rows text 0 (F.leaves v)) where
  pub hold_spells : F.Allowed v → Spells F rows text v
  hold_spells a = record {
    allowed = a;
    whole = w;
    give = along_map (Holds rows text) (RowGives rows text) 0 (F.leaves v) (λ k x a b g. holds_gives rows text k x g) h;
  }

  pub hold_good : Each Fits (F.leaves v) → GoodTexts rows text
  hold_good f i k =
      let n : whole_rows rows ≡ length (F.leaves v) = whole_rows_lem rows (length (F.leaves v)) w in
      along_at (λ k x. Holds rows text k x × Fits x) (λ k. sort_at rows k ≡ text_sort → GoodText rows text k) (holds_good rows text) 0 (F.leaves v)
      (along_also (Holds rows text) Fits 0 (F.leaves v) h f) i (omega arith) (omega arith)

zero_beyond : (rows : List ℕ) (m k : ℕ) → length rows ≤ k → get_or (rows ++ replicate m 0) k 0 ≡ 0
zero_beyond rows m k h =
    let e : k ≡ length rows + (k - length rows) = omega arith in
    ap (λ (i : ℕ). get_or (rows ++ replicate m 0) i 0) e ∙ get_or-append-add rows (replicate m 0) (k - length rows) 0 ∙ zeros m (k - length rows)
  where
    zeros : (m i : ℕ) → get_or {A = ℕ} (replicate m 0) i 0 ≡ 0
    zeros zero i = refl
    zeros (suc m) zero = refl
    zeros (suc m) (suc i) = zeros m i

-- Good rows that spell a value are returned by a reading whose rows hold its leaves
module _ (F : Form) (rows text : List ℕ) (v : F.Content) (s : Spells F rows text v) (good : GoodTexts rows text) where
  abbrev spelt : List Leaf
  spelt = F.leaves v

  spelt_rows : whole_rows rows ≡ length spelt
  spelt_rows = whole_rows_lem rows (length spelt) s.whole

  given_hold : HoldAll rows text 0 spelt
  given_hold = along_map (RowGives rows text) (Holds rows text) 0 spelt (λ k x a h g. good_holds rows text k x (good k (omega (arith, spelt_rows))) g) s.give

  pub returned : (b found : List ℕ) (m entities : ℕ) → length found ≡ row_width * length spelt → HoldAll (found ++ replicate m 0) b 0 spelt
      → (r : Result) → r.answer ≡ accepted entities (length spelt) → r.table ≡ found ++ replicate m 0 → ReadsBack rows text b entities r
  returned b found m entities l h r a t = record {
    answer = a ∙ ap (accepted entities) (sym spelt_rows);
    sorts = λ i k. rw t (same i k).sorts;
    values = λ i k. rw t (same i k).values;
    texts = λ i k. rw t (same i k).texts;
    zeros = λ k j. rw t (zero_beyond found m k (omega (arith, l, spelt_rows)));
  }
    where
      table : List ℕ
      table = found ++ replicate m 0

      same : (i : ℕ) → i < whole_rows rows → Alike rows text table b i
      same i k =
          along_at (λ k x. Holds rows text k x × Holds table b k x) (Alike rows text table b) (alike rows text table b) 0 spelt
          (along_both (Holds rows text) (Holds table b) 0 spelt given_hold h) i (omega arith) (omega (arith, spelt_rows))

-- The rows of one value alone in a table, with only 0 after them
module _ (L : Layout) (s : List ℕ) (v : Value L) (d : Derives L s v) where
  abbrev ls : List Leaf
  ls = leaves L v

  stored_hold : (zeros : List ℕ) → HoldAll (rows_from 0 ls ++ zeros) s 0 ls
  stored_hold zeros = rows_hold ls [] zeros s 0 0 [] (omega arith) (sym d.derives ∙ sym (append-nil (bytes L v)))

  written_back : (size : ℕ) → length s ≤ size → write L (rows_from 0 ls) s size ≡ ok s (length s)
  written_back size h =
      let hold : HoldAll (rows_from 0 ls) s 0 ls = subst (λ (t : List ℕ). HoldAll t s 0 ls) (append-nil (rows_from 0 ls)) (stored_hold []) in
      let spells = hold_spells (alone L) (rows_from 0 ls) s v (rows_length 0 ls) hold (meets_map fits_sized L v d.proper) in
      let texts = hold_good (alone L) (rows_from 0 ls) s v (rows_length 0 ls) hold (each_of Fits L v d.proper) in
      (write_exact L (rows_from 0 ls) s size s (length s)).1 (v, record { spells = spells; texts = texts; small = omega (arith, ap length d.derives, d.small) }, sym d.derives, refl, h)

accepted_back : (L : Layout) (entities : ℕ) (s table : List ℕ) (r : Result) (n : ℕ) (v : Value L) → Derives L s v → r ≡ acceptance (given entities (leaves L v)) table
    → r.answer ≡ accepted entities n → (size : ℕ) → length s ≤ size → write L (take (row_width * n) r.table) s size ≡ ok s (length s)
accepted_back L entities s table r n v d q a size h =
    let ls = leaves L v in
    let m : n ≡ length ls = ap (λ (y : Answer). y.rows) (sym a ∙ ap (λ (y : Result). y.answer) q) in
    let l : row_width * n ≡ length (rows_from 0 ls) = omega (arith, rows_length 0 ls) in
    let t : take (row_width * n) r.table ≡ rows_from 0 ls =
    ap (λ (y : Result). take (row_width * n) y.table) q
    ∙ rw l (take-append_seam (rows_from 0 ls) (replicate (length table - row_width * length ls) 0)) in
    rw t (written_back L s v d size h)

pub write_read : WriteRead
write_read L entities s u table r n e a size h =
    let x = alone_exact L entities s u table in
    let (v, d, fits) = x.accepts.0 (ap (λ (y : Result). y.answer.accepts) (sym e) ∙ ap (λ (y : Answer). y.accepts) a) in
    accepted_back L entities s table r n v d (e ∙ x.fits v d fits) a size h

pub read_written : ReadWritten
unfolding reading_alone
read_written L entities rows text size b n e table room =
    let (v, w, x, y, fits) = (write_exact L rows text size b n).0 e in
    let ls = leaves L v in
    let d : Derives L b v = record { small = omega (arith, ap length x, w.small); proper = proper_alone L rows text v w; derives = sym x } in
    let enough : length ls ≤ whole_rows table = omega (arith, whole_rows_lem rows (length ls) w.spells.whole) in
    let m = length table - row_width * length ls in
    rw (alone_complete L entities b v d, le-leb (length ls) (whole_rows table) enough)
    (returned (alone L) rows text v w.spells w.texts b (rows_from 0 ls) m entities (rows_length 0 ls) (stored_hold L b v d (replicate m 0)) _ refl refl)
