-- Runs of equal marks, from the last mark to the first. Here t, u and v are what marks stand for.
use Prim.Native.Nat.{ℕ, ◌+◌, ◌*◌, ◌-◌, ◌<◌, ◌≤◌}
use native.Mathlib.Numerals.{add-one}
use native.Mathlib.Omega.{arith}
use mathlib.Core.List.{List, [], ◌∷◌}
use mathlib.Core.Logic.{◌⊎◌, inl, inr, ⊎_elim}
use mathlib.Core.Path.{◌≡◌, refl, sym, ap, ◌∙◌}
use lib.ListN.{length, get_or, drop, drop_of_length-le}
use lib.Seq.{drop-cons}
use Rattle.std.specs.declared.cmp.Ordering.TheVariants.{Less, Equal}
use Rattle.layout.specs.Answers.{limit}
use Rattle.raw_bytes.proofs.Compared.{same_refl}
use Rattle.runs.specs.Runs.{kind_and_text, kinds_and_texts, equals, pairs}
use Rattle.runs.specs.Private.{kind_order}
use Rattle.runs.proofs.Ordering.{order_equal, order_trans, order_differ}

-- None of these is less than t
abbrev pub Least : List ℕ → List (List ℕ) → Type 0
Least t [] = Unit {0}
Least t (u ∷ us) = ((kind_order t u ≡ Less) ⊎ (t ≡ u)) × Least t us

-- One in front of others: it is the least, `run` are the same, itself included, and all together have n pairs
pub record Front (t : List ℕ) (ts : List (List ℕ)) (run n : ℕ) : Type 0 where
  pub least : Least t ts
  pub run_is : run ≡ 1 + equals t ts
  pub pairs_is : n ≡ pairs (t ∷ ts)

-- What is less than the least is less than all, and none is equal to it
module _ (t u : List ℕ) (e : kind_order t u ≡ Less) where
  least_less : (us : List (List ℕ)) → Least u us → Least t us
  least_less [] l = tt
  least_less (v ∷ us) l = (inl (⊎_elim (λ p. order_trans t u v e p) (λ p. rw p at e) l.0), least_less us l.1)

  none_equal : (us : List (List ℕ)) → Least u us → equals t us ≡ 0
  none_equal [] l = refl
  none_equal (v ∷ us) l =
      let o : kind_order t v ≡ Less = ⊎_elim (λ p. order_trans t u v e p) (λ p. rw p at e) l.0 in
      rw (order_differ t v o) (omega (arith, none_equal us l.1))

front_last : (t : List ℕ) → Front t [] 1 0
front_last t = record { least = tt; run_is = refl; pairs_is = refl }

module _ {u : List ℕ} {us : List (List ℕ)} {run n : ℕ} (f : Front u us run n) (t : List ℕ) where
  front_equal : kind_order t u ≡ Equal → Front t (u ∷ us) (run + 1) (n + run)
  front_equal e =
      rw (order_equal t u e)
      (record {
        least = (inr refl, f.least);
        run_is = rw (same_refl u) (omega (arith, f.run_is));
        pairs_is = rw (same_refl u) (omega (arith, f.run_is, f.pairs_is));
      })

  front_less : kind_order t u ≡ Less → Front t (u ∷ us) 1 n
  front_less e =
      let z : equals t (u ∷ us) ≡ 0 = rw (order_differ t u e) (omega (arith, none_equal t u e us f.least)) in
      record {
        least = (inl e, least_less t u e us f.least);
        run_is = omega (arith, z);
        pairs_is = omega (arith, z, f.pairs_is);
      }

-- The marks from a place on
pub record From (s l : List ℕ) (at run n : ℕ) : Type 0 where
  pub inside : at < length l
  pub few : run + at ≤ length l
  pub small : n ≤ limit * (length l - at)
  pub front : Front (kind_and_text s (get_or l at 0)) (kinds_and_texts s (drop (at + 1) l)) run n

pub marks_there : (s l : List ℕ) (i : ℕ) → i < length l → kinds_and_texts s (drop i l) ≡ kind_and_text s (get_or l i 0) ∷ kinds_and_texts s (drop (i + 1) l)
marks_there s l i h = rw (add-one, drop-cons l i 0 h)

pub from_last : (s l : List ℕ) (at : ℕ) → at + 1 ≡ length l → From s l at 1 0
from_last s l at e =
    record {
      inside = omega arith;
      few = omega arith;
      small = omega arith;
      front = rw (drop_of_length-le l {i = at + 1} (omega arith)) (front_last (kind_and_text s (get_or l at 0)));
    }

module _ {s l : List ℕ} {next run n : ℕ} (f : From s l next run n) (at : ℕ) (e : next ≡ at + 1) where
  from_front : (run₂ n₂ : ℕ) → Front (kind_and_text s (get_or l at 0)) (kind_and_text s (get_or l next 0) ∷ kinds_and_texts s (drop (next + 1) l)) run₂ n₂ → Front (kind_and_text s (get_or l at 0)) (kinds_and_texts s (drop (at + 1) l)) run₂ n₂
  from_front run₂ n₂ r = rw (← e, marks_there s l next f.inside) r

  pub from_equal : length l ≤ limit → kind_order (kind_and_text s (get_or l at 0)) (kind_and_text s (get_or l next 0)) ≡ Equal → From s l at (run + 1) (n + run)
  from_equal h o =
      record {
        inside = omega (arith, f.inside);
        few = omega (arith, f.few);
        small = omega (arith, f.small, f.few, f.inside);
        front = from_front (run + 1) (n + run) (front_equal f.front (kind_and_text s (get_or l at 0)) o);
      }

  pub from_less : kind_order (kind_and_text s (get_or l at 0)) (kind_and_text s (get_or l next 0)) ≡ Less → From s l at 1 n
  from_less o =
      record {
        inside = omega (arith, f.inside);
        few = omega (arith, f.few, f.inside);
        small = omega (arith, f.small, f.few, f.inside);
        front = from_front 1 n (front_less f.front (kind_and_text s (get_or l at 0)) o);
      }

pub from_first : {s l : List ℕ} {at run n : ℕ} → From s l at run n → at ≡ 0 → n ≡ pairs (kinds_and_texts s l)
from_first {s} {l} {at} f z = f.front.pairs_is ∙ sym (ap pairs (marks_there s l at f.inside)) ∙ rw z

pub none_paired : (s l : List ℕ) → length l ≡ 0 → 0 ≡ pairs (kinds_and_texts s l)
none_paired s [] e = refl
none_paired s (p ∷ l) e = absurd (omega arith)
