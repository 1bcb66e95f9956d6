-- The number by kinds, and beside that of the pairs of one kind or not.
use Prim.Native.Nat.{ℕ, zero, suc, ◌+◌, ◌<◌, ◌≤◌}
use native.Mathlib.Omega.{arith}
use mathlib.Core.Bool.{Bool, true, false, cond, ◌&&◌}
use mathlib.Core.List.{List, [], ◌∷◌, ◌++◌, map}
use mathlib.Core.Path.{◌≡◌, refl, sym, ap, ◌∙◌}
use lib.Dec.{eqb}
use borrow.Author.Tests.{ne_eqb}
use Rattle.layout.specs.Layout.{Leaf}
use Rattle.layout.specs.Entities.{value_in}
use Rattle.table.specs.Answers.{counted}
use Rattle.raw_bytes.specs.Bytes.{same}
use Rattle.section.specs.Derivation.{Placed, entities_of}
use Rattle.runs.specs.Runs.{equals, pairs}
use Rattle.paths.specs.Paths.{full_path_fields, field_of, full_path, kind_and_path, kinds_and_paths}
use Rattle.paths.specs.Private.{pairs_with}
use Rattle.paths.specs.Theorems.{paths, of_kind, pairs_of_kind, ReportAtMost, ReportByKinds}
use Rattle.paths.proofs.Walk.{equals_append, front_pairs}
use Rattle.paths.proofs.Few.{full_path_one, kind_and_path_one}
use Rattle.paths.proofs.Report.{report_derived}

-- Paths with a kind in front of each
abbrev keyed : ℕ → List (List ℕ) → List (List ℕ)
keyed kind ps = map (λ path. kind ∷ path) ps

-- A path in front of others, if an entity has one
paths_front : (ls : List Leaf) (us : List (List ℕ)) → pairs (full_path ls ++ us) ≡ pairs_with (full_path ls) us + pairs us
paths_front ls us = front_pairs (full_path ls) us (full_path_one ls)

pub keys_front : (ls : List Leaf) (us : List (List ℕ)) → pairs (kind_and_path ls ++ us) ≡ pairs_with (kind_and_path ls) us + pairs us
keys_front ls us = front_pairs (kind_and_path ls) us (kind_and_path_one ls)

-- Of one kind or not
both_most : (b c : Bool) → cond (b && c) 1 0 ≤ cond c 1 0
both_most true c = omega arith
both_most false c = omega arith

module _ (k : ℕ) (t : List ℕ) where
  keyed_most : (l : ℕ) (us : List (List ℕ)) → equals (k ∷ t) (keyed l us) ≤ equals t us
  keyed_most l [] = omega arith
  keyed_most l (u ∷ us) = omega (arith, both_most (eqb k l) (same t u), keyed_most l us)

  equals_most : (es : List Placed) → equals (k ∷ t) (kinds_and_paths es) ≤ equals t (paths es)
  equals_most [] = omega arith
  equals_most (e ∷ es) =
      omega (arith, equals_append (k ∷ t) (kind_and_path e.content) (kinds_and_paths es), equals_append t (full_path e.content) (paths es), keyed_most (value_in e.content 0) (full_path e.content), equals_most es)

with_most : (k : ℕ) (ts : List (List ℕ)) (es : List Placed) → pairs_with (keyed k ts) (kinds_and_paths es) ≤ pairs_with ts (paths es)
with_most k [] es = omega arith
with_most k (t ∷ ts) es = omega (arith, equals_most k t es, with_most k ts es)

pairs_most : (es : List Placed) → pairs (kinds_and_paths es) ≤ pairs (paths es)
pairs_most [] = omega arith
pairs_most (e ∷ es) =
    omega (arith, keys_front e.content (kinds_and_paths es), paths_front e.content (paths es), with_most (value_in e.content 0) (full_path e.content) es, pairs_most es)

pub report_at_most : ReportAtMost
report_at_most s d g n e =
    let q : counted n ≡ counted (pairs (kinds_and_paths (entities_of d))) = sym e ∙ report_derived s d g in
    let m : n ≡ pairs (kinds_and_paths (entities_of d)) = cc in
    rw m (pairs_most (entities_of d))

-- Of one kind
module _ (k : ℕ) (t : List ℕ) where
  keyed_same : (l : ℕ) → eqb k l ≡ true → (us : List (List ℕ)) → equals (k ∷ t) (keyed l us) ≡ equals t us
  keyed_same l e [] = refl
  keyed_same l e (u ∷ us) = rw e (omega (arith, keyed_same l e us))

  keyed_other : (l : ℕ) → eqb k l ≡ false → (us : List (List ℕ)) → equals (k ∷ t) (keyed l us) ≡ 0
  keyed_other l e [] = refl
  keyed_other l e (u ∷ us) = rw e (omega (arith, keyed_other l e us))

  equals_kind : (es : List Placed) → equals (k ∷ t) (kinds_and_paths es) ≡ equals t (paths (of_kind k es))
  equals_kind [] = refl
  equals_kind (e ∷ es) = go (eqb k (value_in e.content 0)) refl (equals_append (k ∷ t) (kind_and_path e.content) (kinds_and_paths es)) (equals_kind es)
    where
      go : (b : Bool) → eqb k (value_in e.content 0) ≡ b
          → equals (k ∷ t) (kinds_and_paths (e ∷ es)) ≡ equals (k ∷ t) (kind_and_path e.content) + equals (k ∷ t) (kinds_and_paths es)
          → equals (k ∷ t) (kinds_and_paths es) ≡ equals t (paths (of_kind k es))
          → equals (k ∷ t) (kinds_and_paths (e ∷ es)) ≡ equals t (paths (of_kind k (e ∷ es)))
      go true q a h = rw q (omega (arith, a, h, keyed_same (value_in e.content 0) q (full_path e.content), equals_append t (full_path e.content) (paths (of_kind k es))))
      go false q a h = rw q (omega (arith, a, h, keyed_other (value_in e.content 0) q (full_path e.content)))

with_kind : (k : ℕ) (ts : List (List ℕ)) (es : List Placed) → pairs_with (keyed k ts) (kinds_and_paths es) ≡ pairs_with ts (paths (of_kind k es))
with_kind k [] es = refl
with_kind k (t ∷ ts) es = omega (arith, equals_kind k t es, with_kind k ts es)

-- An entity adds the pairs with those of its kind
kind_front : (k : ℕ) (e : Placed) (es : List Placed) → pairs_of_kind k (e ∷ es) ≡ cond (eqb k (value_in e.content 0)) (pairs_with (full_path e.content) (paths (of_kind k es))) 0 + pairs_of_kind k es
kind_front k e es = go (eqb k (value_in e.content 0)) refl
  where
    go : (b : Bool) → eqb k (value_in e.content 0) ≡ b → pairs_of_kind k (e ∷ es) ≡ cond (eqb k (value_in e.content 0)) (pairs_with (full_path e.content) (paths (of_kind k es))) 0 + pairs_of_kind k es
    go true q = rw q (paths_front e.content (paths (of_kind k es)))
    go false q = rw q (omega arith)

-- A kind above 9 has no full_path
other : (m n : ℕ) → m < n → eqb m n ≡ false
other m n h = ne_eqb m n (λ e. omega arith)

no_field : (n : ℕ) → 9 < n → field_of full_path_fields n ≡ 0
no_field n h = rw (above 2 (omega arith), above 3 (omega arith), above 4 (omega arith), above 5 (omega arith), above 6 (omega arith), above 7 (omega arith), above 8 (omega arith), above 9 (omega arith))
  where
    above : (m : ℕ) → m ≤ 9 → eqb n m ≡ false
    above m l = ne_eqb n m (λ e. omega arith)

-- One of the eight kinds, or none that has a full_path
module _ (x : ℕ → ℕ) where
  at_kind : (l : ℕ) → (field_of full_path_fields l ≡ 0 → x l ≡ 0) → cond (eqb 2 l) (x 2) 0 + cond (eqb 3 l) (x 3) 0 + cond (eqb 4 l) (x 4) 0 + cond (eqb 5 l) (x 5) 0 + cond (eqb 6 l) (x 6) 0 + cond (eqb 7 l) (x 7) 0 + cond (eqb 8 l) (x 8) 0 + cond (eqb 9 l) (x 9) 0 ≡ x l
  at_kind zero h = sym (h refl)
  at_kind (suc zero) h = sym (h refl)
  at_kind (suc (suc zero)) h = omega arith
  at_kind (suc (suc (suc zero))) h = omega arith
  at_kind (suc (suc (suc (suc zero)))) h = omega arith
  at_kind (suc (suc (suc (suc (suc zero))))) h = omega arith
  at_kind (suc (suc (suc (suc (suc (suc zero)))))) h = omega arith
  at_kind (suc (suc (suc (suc (suc (suc (suc zero))))))) h = omega arith
  at_kind (suc (suc (suc (suc (suc (suc (suc (suc zero)))))))) h = omega arith
  at_kind (suc (suc (suc (suc (suc (suc (suc (suc (suc zero))))))))) h = omega arith
  at_kind (suc (suc (suc (suc (suc (suc (suc (suc (suc (suc n)))))))))) h =
      let l : ℕ = suc (suc (suc (suc (suc (suc (suc (suc (suc (suc n))))))))) in
      rw (other 2 l (omega arith), other 3 l (omega arith), other 4 l (omega arith), other 5 l (omega arith), other 6 l (omega arith), other 7 l (omega arith), other 8 l (omega arith), other 9 l (omega arith))
      (sym (h (no_field l (omega arith))))

no_path : (ls : List Leaf) → field_of full_path_fields (value_in ls 0) ≡ 0 → (us : List (List ℕ)) → pairs_with (full_path ls) us ≡ 0
no_path ls e us = rw e

by_kinds : (es : List Placed) → pairs (kinds_and_paths es) ≡ pairs_of_kind 2 es + pairs_of_kind 3 es + pairs_of_kind 4 es + pairs_of_kind 5 es + pairs_of_kind 6 es + pairs_of_kind 7 es + pairs_of_kind 8 es + pairs_of_kind 9 es
by_kinds [] = refl
by_kinds (e ∷ es) =
    omega (
      arith,
      at_kind (λ k. pairs_with (full_path e.content) (paths (of_kind k es))) (value_in e.content 0) (λ z. no_path e.content z (paths (of_kind (value_in e.content 0) es))),
      keys_front e.content (kinds_and_paths es),
      with_kind (value_in e.content 0) (full_path e.content) es,
      kind_front 2 e es,
      kind_front 3 e es,
      kind_front 4 e es,
      kind_front 5 e es,
      kind_front 6 e es,
      kind_front 7 e es,
      kind_front 8 e es,
      kind_front 9 e es,
      by_kinds es,
    )

pub report_by_kinds : ReportByKinds
report_by_kinds s d g = report_derived s d g ∙ ap counted (by_kinds (entities_of d))
