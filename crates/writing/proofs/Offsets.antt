-- Tables that differ only in the offsets of rows other than text rows are written alike.
use Prim.Native.Nat.{ℕ, ◌/◌, ◌<◌}
use native.Mathlib.Omega.{arith}
use mathlib.Core.List.{List}
use mathlib.Core.Path.{◌≡◌, refl, sym, ap, ◌∙◌}
use lib.ListN.{length}
use Rattle.layout.specs.Layout.{Leaf, plain, string}
use Rattle.layout.specs.Written.{text_sort, row_width, sort_at}
use Rattle.layout.specs.Reading.{Outcome, ok, refuse}
use Rattle.layout.specs.Answers.{whole_rows}
use Rattle.writing.specs.Rows.{lent_at}
use Rattle.writing.specs.Writing.{spelled, measured, write}
use Rattle.writing.specs.Refusals.{RowGives, Form, alone, Spells, Writable, GoodText, GoodTexts, WriteRefusal, not_spelled, bad_text, too_long, no_space}
use Rattle.writing.specs.Theorems.{SameRow, OffsetFree}
use Rattle.writing.proofs.Along.{along_map}
use Rattle.writing.proofs.Spelled.{whole_rows_lem, Takes, takes_alone}
use Rattle.writing.proofs.Exact.{written_by, writes_all, writes_only, refuses_exact}

same_back : (rows other : List ℕ) (i : ℕ) → SameRow rows other i → SameRow other rows i
same_back rows other i h = record { sorts = sym h.sorts; values = sym h.values; offsets = λ s. sym (h.offsets (sym h.sorts ∙ s)) }

module _ (rows other text : List ℕ) (i : ℕ) (h : SameRow rows other i) where
  same_lent : sort_at rows i ≡ text_sort → lent_at other text i ≡ lent_at rows text i
  same_lent s = rw (h.values, h.offsets s)

  same_gives : (x : Leaf) → RowGives rows text i x → RowGives other text i x
  same_gives (plain srt n) g = (h.sorts ∙ g.0, h.values ∙ g.1)
  same_gives (string t) g = (h.sorts ∙ g.0, same_lent g.0 ∙ g.1)

  same_good : sort_at rows i ≡ text_sort → GoodText rows text i → GoodText other text i
  same_good s g = (rw (h.values, h.offsets s) g.0, rw (same_lent s) g.1)

module _ (F : Form) (rows other text : List ℕ) (l : length other ≡ length rows) (h : (i : ℕ) → i < whole_rows rows → SameRow rows other i) where
  same_spells : (v : F.Content) → Spells F rows text v → Spells F other text v
  same_spells v s =
      let w = whole_rows_lem rows (length (F.leaves v)) s.whole in
      record {
        allowed = s.allowed;
        whole = l ∙ s.whole;
        give = along_map (RowGives rows text) (RowGives other text) 0 (F.leaves v) (λ k x a b g. same_gives rows other text k (h k (omega arith)) x g) s.give;
      }

  same_texts : GoodTexts rows text → GoodTexts other text
  same_texts g i a s =
      let b : i < whole_rows rows = omega (arith, ap (λ (n : ℕ). n / row_width) l) in
      let z : sort_at rows i ≡ text_sort = sym (h i b).sorts ∙ s in
      same_good rows other text i (h i b) z (g i b z)

module _ (F : Form) (rows other text : List ℕ) (l : length other ≡ length rows) (h : (i : ℕ) → i < whole_rows rows → SameRow rows other i) where
  back : (i : ℕ) → i < whole_rows other → SameRow other rows i
  back i a = same_back rows other i (h i (omega (arith, ap (λ (n : ℕ). n / row_width) l)))

  same_refusal : (size n : ℕ) → WriteRefusal F rows text size n → WriteRefusal F other text size n
  same_refusal size n (not_spelled r) = not_spelled (λ v s. r v (same_spells F other rows text (sym l) back v s))
  same_refusal size n (bad_text v i s a z g) =
      let b : i < whole_rows other = omega (arith, ap (λ (k : ℕ). k / row_width) l) in
      let y : sort_at other i ≡ text_sort = (h i a).sorts ∙ z in
      bad_text v i (same_spells F rows other text l h v s) b y (λ q. g (same_good other rows text i (back i b) y q))
  same_refusal size n (too_long v s g k) = too_long v (same_spells F rows other text l h v s) (same_texts F rows other text l h g) k
  same_refusal size n (no_space v s g k j) = no_space v (same_spells F rows other text l h v s) (same_texts F rows other text l h g) k j

  same_writable : (v : F.Content) → Writable F rows text v → Writable F other text v
  same_writable v w = record { spells = same_spells F rows other text l h v w.spells; texts = same_texts F rows other text l h w.texts; small = w.small }

  -- So both are written alike
  pub written_alike : (a b : Outcome ℕ F.Content) → Takes F rows text a → Takes F other text b → (size : ℕ) → written_by F other text b size ≡ written_by F rows text a size
  written_alike a b j k size = go (written_by F rows text a size) refl
    where
      go : (o : Outcome ℕ (List ℕ)) → written_by F rows text a size ≡ o → written_by F other text b size ≡ o
      go (ok x n) e =
          let (v, w, p, q, fits) = writes_only F rows text a j size x n e in
          let m : n ≡ length (F.bytes v) = q ∙ ap length p in
          let y = writes_all F other text b k size v (same_writable v w) (omega arith) in
          cc
      go (refuse n p) e =
          let (r, z) = (refuses_exact F rows text a j size n p).0 e in
          (refuses_exact F other text b k size n p).1 (same_refusal size n r, z)

pub offset_free : OffsetFree
unfolding write measured spelled
offset_free L rows other text size l h = written_alike (alone L) rows other text l h _ _ (takes_alone L rows text) (takes_alone L other text) size
