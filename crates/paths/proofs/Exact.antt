-- The report by derivations and by the conditions of refusals.
use Prim.Native.Nat.{ℕ, ◌+◌}
use native.Mathlib.Omega.{arith}
use mathlib.Core.Bool.{Bool, true, false, cond, ◌&&◌}
use mathlib.Core.List.{List, [], ◌∷◌, ◌++◌}
use mathlib.Core.Logic.{◌⊎◌, inl, inr, ⊎_elim}
use mathlib.Core.Path.{◌≡◌, refl, sym, ap, ◌∙◌}
use lib.Dec.{eqb}
use lib.ListN.{length}
use borrow.Author.Tests.{eqb-true, eqb-false}
use Rattle.layout.specs.Layout.{Leaf}
use Rattle.layout.specs.Entities.{value_in}
use Rattle.layout.specs.Reading.{Outcome, ok, refuse}
use Rattle.layout.specs.Theorems.{Bytes}
use Rattle.layout.proofs.Walk.{all_ok}
use Rattle.raw_bytes.specs.Bytes.{same}
use Rattle.raw_bytes.proofs.Compared.{same_sound, same_refl}
use Rattle.table.specs.Answers.{Total, counted, uncounted}
use Rattle.section.specs.Derivation.{Derivation, Placed, entities_of}
use Rattle.section.specs.Section.{read_section}
use Rattle.section.specs.Refusals.{SectionRefusal}
use Rattle.section.specs.Demand3.{Good}
use Rattle.section.proofs.Section.{section_sound}
use Rattle.section.proofs.Refusals.{refusal_exact}
use Rattle.section.proofs.Demand3.{refusal_numbered}
use Rattle.runs.specs.Runs.{pairs}
use Rattle.paths.specs.Paths.{full_path, kind_and_path, kinds_and_paths, report}
use Rattle.paths.specs.Repeats.{Repeat, RepeatsWith, with_none, with_next, without_next, RepeatPairs, no_pairs, more_pairs, ExactReport}
use Rattle.paths.specs.Private.{pairs_with}
use Rattle.paths.specs.Theorems.{SchemaAlone, RepeatPairsExact, ReportExact, ReportNumbered}
use Rattle.paths.proofs.Walk.{equals_append}
use Rattle.paths.proofs.Few.{one_or_none}
use Rattle.paths.proofs.Report.{report_derived, report_refused}
use Rattle.paths.proofs.ByKind.{keys_front}

nothing_else : {t : List ℕ} → ◌≡◌ {A = List (List ℕ)} [] (t ∷ []) → ⊥
nothing_else e = let z : ◌≡◌ {A = ℕ} 0 1 = ap length e in omega arith

-- Two entities make a pair exactly if they repeat a path
abbrev PairCount : (e f : List Leaf) (n : ℕ) → Type 0
PairCount e f n = ((n ≡ 1) × Repeat e f) ⊎ ((n ≡ 0) × (Repeat e f → ⊥))

module _ (e f : List Leaf) where
  count_both : (t u : List ℕ) → full_path e ≡ t ∷ [] → full_path f ≡ u ∷ [] → PairCount e f (pairs_with (kind_and_path e) (kind_and_path f))
  count_both t u p q = rw (p, q) (go (eqb (value_in e 0) (value_in f 0)) (same t u) refl refl)
    where
      go : (b c : Bool) → eqb (value_in e 0) (value_in f 0) ≡ b → same t u ≡ c → PairCount e f (cond (b && c) 1 0 + 0 + 0)
      go true true k s = inl (refl, record { kinds = eqb-true _ _ k; path = t; first = p; second = rw (same_sound t u s) q })
      go true false k s = inr (
        refl,
        λ r.
            let j : (t ∷ []) ≡ (u ∷ []) = sym p ∙ r.first ∙ sym r.second ∙ q in
            let i : t ≡ u = cc in
            let z : false ≡ true = sym s ∙ rw i (same_refl u) in
            let y : ◌≡◌ {A = ℕ} 0 1 = cc in omega arith,
      )
      go false c k s = inr (refl, λ r. eqb-false _ _ k r.kinds)

  count_none : (full_path e ≡ []) ⊎ (full_path f ≡ []) → Repeat e f → ⊥
  count_none h r = ⊎_elim (λ p. nothing_else (sym p ∙ r.first)) (λ q. nothing_else (sym q ∙ r.second)) h

  count_of : PairCount e f (pairs_with (kind_and_path e) (kind_and_path f))
  count_of =
      ⊎_elim
      (λ p. inr (rw p, count_none (inl p)))
      (λ p. ⊎_elim (λ q. inr (rw (p.1, q), count_none (inr q))) (λ q. count_both p.0 q.0 p.1 q.1) (one_or_none f))
      (one_or_none e)

pub schema_alone : SchemaAlone
schema_alone e f k =
    let none : full_path e ≡ [] = rw k in
    (count_none e f (inl none), count_none f e (inr none))

-- The pairs of one entity with others, and of others
with_append : (ts us vs : List (List ℕ)) → pairs_with ts (us ++ vs) ≡ pairs_with ts us + pairs_with ts vs
with_append [] us vs = refl
with_append (t ∷ ts) us vs = omega (arith, equals_append t us vs, with_append ts us vs)

with_nothing : (ts : List (List ℕ)) → pairs_with ts [] ≡ 0
with_nothing [] = refl
with_nothing (t ∷ ts) = omega (arith, with_nothing ts)

next : {e f : Placed} {fs : List Placed} {m n k : ℕ} → PairCount e.content f.content m → RepeatsWith e fs n → k ≡ m + n → RepeatsWith e (f ∷ fs) k
next {e} {f} {fs} {m} {n} {k} c w q =
    ⊎_elim
    (λ t. let i : k ≡ 1 + n = omega (arith, q, t.0) in rw i (with_next t.1 w))
    (λ t. let i : k ≡ n = omega (arith, q, t.0) in rw i (without_next t.1 w))
    c

repeats_with : (e : Placed) (es : List Placed) → RepeatsWith e es (pairs_with (kind_and_path e.content) (kinds_and_paths es))
repeats_with e [] = rw (with_nothing (kind_and_path e.content)) with_none
repeats_with e (f ∷ fs) = next (count_of e.content f.content) (repeats_with e fs) (with_append (kind_and_path e.content) (kind_and_path f.content) (kinds_and_paths fs))

repeat_pairs : (es : List Placed) → RepeatPairs es (pairs (kinds_and_paths es))
repeat_pairs [] = no_pairs
repeat_pairs (e ∷ es) = rw (keys_front e.content (kinds_and_paths es)) (more_pairs (repeats_with e es) (repeat_pairs es))

with_unique : {e : Placed} {es : List Placed} {m n : ℕ} → RepeatsWith e es m → RepeatsWith e es n → m ≡ n
with_unique with_none with_none = refl
with_unique (with_next r a) (with_next q b) = ap (λ (n : ℕ). 1 + n) (with_unique a b)
with_unique (with_next r a) (without_next q b) = absurd (q r)
with_unique (without_next r a) (with_next q b) = absurd (r q)
with_unique (without_next r a) (without_next q b) = with_unique a b

pairs_unique : {es : List Placed} {m n : ℕ} → RepeatPairs es m → RepeatPairs es n → m ≡ n
pairs_unique no_pairs no_pairs = refl
pairs_unique (more_pairs a x) (more_pairs b y) = rw (with_unique a b, pairs_unique x y)

pub repeat_pairs_exact : RepeatPairsExact
repeat_pairs_exact es n = (λ r. pairs_unique r (repeat_pairs es), λ e. rw e (repeat_pairs es))

module _ (s : List ℕ) (u : Bytes s) where
  counted_derived : (n : ℕ) → report s ≡ counted n → (d : Derivation) × Good s d × RepeatPairs (entities_of d) n
  counted_derived n e = go (read_section s) refl
    where
      go : (m : Outcome ℕ (List Placed)) → read_section s ≡ m → (d : Derivation) × Good s d × RepeatPairs (entities_of d) n
      go (ok es end) q =
          let (d, g, i) = all_ok (section_sound s u) q in
          let k : counted n ≡ counted (pairs (kinds_and_paths (entities_of d))) = sym e ∙ report_derived s d g in
          let j : n ≡ pairs (kinds_and_paths (entities_of d)) = cc in
          (d, g, rw j (repeat_pairs (entities_of d)))
      go (refuse m t) q =
          let k : uncounted m t ≡ counted n = sym (report_refused s m t q) ∙ e in
          let z : ◌≡◌ {A = ℕ} 0 1 = cc in
          absurd (omega arith)

  refused_met : (n p : ℕ) → report s ≡ uncounted n p → SectionRefusal s n p
  refused_met n p e = go (read_section s) refl
    where
      go : (m : Outcome ℕ (List Placed)) → read_section s ≡ m → SectionRefusal s n p
      go (ok es end) q =
          let (d, g, i) = all_ok (section_sound s u) q in
          let k : counted (pairs (kinds_and_paths (entities_of d))) ≡ uncounted n p = sym (report_derived s d g) ∙ e in
          let z : ◌≡◌ {A = ℕ} 0 1 = cc in
          absurd (omega arith)
      go (refuse m t) q =
          let k : uncounted m t ≡ uncounted n p = sym (report_refused s m t q) ∙ e in
          let i : m ≡ n = cc in
          let j : t ≡ p = cc in
          (refusal_exact s u n p).0 (rw (i, j) at q)

pub report_exact : ReportExact
report_exact s u =
    record {
      counts = λ n. (counted_derived s u n, λ c. report_derived s c.0 c.1 ∙ ap counted (sym ((repeat_pairs_exact (entities_of c.0) n).0 c.2)));
      refuses = λ n p. (refused_met s u n p, λ r. report_refused s n p ((refusal_exact s u n p).1 r));
    }

pub report_numbered : ReportNumbered
report_numbered s u n p e = refusal_numbered s n p (refused_met s u n p e)

-- An answer that is the report meets both clauses of the contract
pub meets_both : (s : List ℕ) → Bytes s → (answer : Total) → answer ≡ report s → (answer ≡ report s) × ExactReport s answer
meets_both s u answer e = (e, rw e (report_exact s u))
