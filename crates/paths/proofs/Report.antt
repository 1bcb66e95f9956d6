-- The report from the answer of a reading through any table.
use Prim.Native.Nat.{ℕ}
use native.Mathlib.Omega.{arith}
use mathlib.Core.List.{List}
use mathlib.Core.Path.{◌≡◌, refl, sym, ap, ◌∙◌}
use lib.Dec.{leb}
use Rattle.layout.specs.Reading.{Outcome, ok, refuse}
use Rattle.layout.specs.Answers.{whole_rows}
use Rattle.layout.specs.Theorems.{Bytes}
use Rattle.layout.proofs.Walk.{all_ok}
use Rattle.layout.proofs.Alone.{never_accepts, only_thirteen}
use Rattle.std.specs.Prelude.{Result, Ok, Err}
use Rattle.table.specs.Answers.{answer_of, result_of, counted, uncounted}
use Rattle.table.specs.declared.Counts.{Counts}
use Rattle.table.specs.declared.Refusal.{Refusal}
use Rattle.section.specs.Derivation.{Derivation, Placed, total_leaves, given_of, entities_of}
use Rattle.section.specs.Section.{read_section, reading}
use Rattle.section.specs.Demand3.{Good}
use Rattle.section.proofs.Section.{section_complete, section_sound}
use Rattle.section.proofs.Refusals.{refusal_exact}
use Rattle.section.specs.Rest.{Rest}
use Rattle.section.proofs.Demand3.{refusal_numbered}
use Rattle.section.proofs.Rest.{rest_whole}
use Rattle.runs.specs.Runs.{pairs}
use Rattle.paths.specs.Paths.{kinds_and_paths, report}
use Rattle.paths.specs.Private as private
use Rattle.layout.specs.Answers as answers

pub report_derived : (s : List ℕ) (d : Derivation) → Good s d → report s ≡ counted (pairs (kinds_and_paths (entities_of d)))
unfolding report
report_derived s d g = rw (section_complete s d g)

module _ (s : List ℕ) (n p : ℕ) (e : read_section s ≡ refuse n p) where
  pub report_refused : report s ≡ uncounted n p
  unfolding report
  report_refused = rw e

  answer_is : (table : List ℕ) → (reading s table).answer ≡ answers.refused n p
  unfolding reading
  answer_is table = rw e

-- A derived section is refused by 13 alone
derived_thirteen : (s : List ℕ) (es : List Placed) (end : ℕ) → read_section s ≡ ok es end → (table : List ℕ) (n p : ℕ) → (reading s table).answer ≡ answers.refused n p → n ≡ 13
unfolding reading
derived_thirteen s es end e table n p q = only_thirteen (leb (total_leaves es) (whole_rows table)) (given_of es) table n p (rw e at q)

-- No refusal of 1 to 12 is met
abbrev pub Passes : Result Counts Refusal → Type 0
Passes (Ok counts) = Unit {0}
Passes (Err refusal) = refusal.number ≡ 13

-- From the answer r of the reading through any table
module _ (s : List ℕ) (u : Bytes s) (table after : List ℕ) (r : Result Counts Refusal) (e : result_of r after ≡ reading s table) where
  answer_read : (v : Result Counts Refusal) → r ≡ v → (reading s table).answer ≡ answer_of v
  answer_read v q = sym (ap (λ (x : answers.Result). x.answer) e) ∙ ap answer_of q

  derived : (v : Result Counts Refusal) → r ≡ v → Passes v → (d : Derivation) × Good s d
  derived v q h = go (read_section s) refl v (answer_read v q) h
    where
      go : (m : Outcome ℕ (List Placed)) → read_section s ≡ m → (v : Result Counts Refusal) → (reading s table).answer ≡ answer_of v → Passes v → (d : Derivation) × Good s d
      go (ok es end) k v q h = let d = all_ok (section_sound s u) k in (d.0, d.1)
      go (refuse n p) k (Ok counts) q h =
          never_accepts (sym q ∙ answer_is s n p k table)
      go (refuse n p) k (Err refusal) q h =
          let j : n ≡ refusal.number = ap (λ (a : answers.Answer). a.number) (sym (answer_is s n p k table) ∙ q) in
          absurd (omega (arith, h, refusal_numbered s n p ((refusal_exact s u n p).0 k)))

  pub passed : (v : Result Counts Refusal) → r ≡ v → Passes v → Rest s 0
  passed v q h = let (d, g) = derived v q h in rest_whole s d g

  pub report_passed : (v : Result Counts Refusal) → r ≡ v → Passes v → (n : ℕ) → private.Counts s 0 n → counted n ≡ report s
  report_passed v q h n k = let (d, g) = derived v q h in ap counted (k (rest_whole s d g)) ∙ sym (report_derived s d g)

  pub report_stopped : (x : Refusal) → r ≡ Err x → (x.number ≡ 13 → ⊥) → uncounted x.number x.place ≡ report s
  report_stopped x q h = go (read_section s) refl
    where
      go : (m : Outcome ℕ (List Placed)) → read_section s ≡ m → uncounted x.number x.place ≡ report s
      go (ok es end) k = absurd (h (derived_thirteen s es end k table x.number x.place (answer_read (Err x) q)))
      go (refuse m t) k =
          let e = sym (answer_read (Err x) q) ∙ answer_is s m t k table in
          let i : x.number ≡ m = ap (λ (a : answers.Answer). a.number) e in
          let j : x.place ≡ t = ap (λ (a : answers.Answer). a.place) e in
          rw (i, j) (sym (report_refused s m t k))
