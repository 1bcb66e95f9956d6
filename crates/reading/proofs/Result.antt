-- The result of a declaration: the verdict on its leaves from its first two bytes. And a refused reading does not change.
use Prim.Native.Nat.{ℕ, ◌+◌, ◌≤◌}
use native.Mathlib.Nat.{add-zero}
use native.Mathlib.Omega.{arith}
use mathlib.Core.Bool.{Bool, true, false}
use mathlib.Core.List.{List, [], ◌∷◌}
use mathlib.Core.Logic.{◌≢◌}
use mathlib.Core.Path.{◌≡◌, refl, sym, ap, ◌∙◌}
use lib.ListN.{length, get_or}
use lib.Dec.{eqb}
use borrow.Author.Tests.{ne_eqb, eqb-true, eqb-false, leb-true}
use Rattle.layout.specs.Layout.{Leaf, Tag, plain, Verdict, fine, wrong, unknown_tag, error_result, nothing}
use Rattle.layout.specs.Forms.{Tags, known, follows, tags}
use Rattle.layout.specs.Entities.{SqlMapping, sql_mappings, ArgumentSql, argument_results, as_or_numeric, result_verdict}
use Rattle.layout.specs.Reading.{Outcome, ok, refuse, ◌>>=◌, need, judged, enough, read}
use Rattle.layout.specs.Machine.{verdict_on}
use Rattle.layout.proofs.Equations.{after, read_nothing, read_case}
use Rattle.reading.specs.State.{ReadState}
use Rattle.reading.specs.Run.{run}
use Rattle.reading.proofs.Reading.{case_read}

-- What is read by a table of tags: a known tag, and what follows it
record Tagged (rows : Tags) (s : List ℕ) (at : ℕ) (ls : List Leaf) (next : ℕ) : Type 0 where
  left : at + 1 ≤ length s
  others : List Leaf
  first : ls ≡ plain Tag (get_or s at 0) ∷ others
  rest : read (follows rows (get_or s at 0)) s (at + 1) ≡ ok others next

not_ok : {ls : List Leaf} {next n p : ℕ} → ◌≡◌ {A = Outcome ℕ (List Leaf)} (refuse n p) (ok ls next) → ⊥
not_ok e = let z : ◌≡◌ {A = ℕ} 0 1 = cc in omega arith

tagged : (rows : Tags) (s : List ℕ) (at : ℕ) (ls : List Leaf) (next : ℕ) → read (tags rows) s at ≡ ok ls next → Tagged rows s at ls next
tagged rows s at ls next h = go (enough s at 1) refl (sym (read_case Tag nothing (known unknown_tag rows) (follows rows) s at) ∙ h)
  where
    last : (o : Outcome ℕ (List Leaf)) → read (follows rows (get_or s at 0)) s (at + 1) ≡ o → at + 1 ≤ length s
        → after (plain Tag (get_or s at 0) ∷ []) o ≡ ok ls next → Tagged rows s at ls next
    last (ok ms end) e l q =
        let a : plain Tag (get_or s at 0) ∷ ms ≡ ls = cc in
        let b : end ≡ next = cc in
        record { left = l; others = ms; first = sym a; rest = rw b at e }
    last (refuse n p) e l q = absurd (not_ok q)

    verdict : (v : Verdict) → at + 1 ≤ length s → judged v at (after (plain Tag (get_or s at 0) ∷ []) (read (follows rows (get_or s at 0)) s (at + 1))) ≡ ok ls next → Tagged rows s at ls next
    verdict fine l q = last (read (follows rows (get_or s at 0)) s (at + 1)) refl l q
    verdict (wrong f) l q = absurd (not_ok q)

    go : (b : Bool) → enough s at 1 ≡ b
        → (need b 5 at (ok (get_or s at 0) (at + 1)) >>= λ n k. read nothing s k >>= λ ms k₂. judged (known unknown_tag rows n) at (after (plain Tag n ∷ ms) (read (follows rows n) s k₂))) ≡ ok ls next
        → Tagged rows s at ls next
    go true e q = verdict (known unknown_tag rows (get_or s at 0)) (leb-true _ _ e) (rw (read_nothing s (at + 1)) at q)
    go false e q = absurd (not_ok q)

-- For a result that was read: its first byte and, if that is Ok, the next
module _ (s : List ℕ) (st st₁ : ReadState) (e : st₁ ≡ run ArgumentSql s st) (z : st₁.cursor.refusal ≡ 0) where
  abbrev at : ℕ
  at = st.cursor.at

  was_read : (ls : List Leaf) × (next : ℕ) × (read ArgumentSql s at ≡ ok ls next)
  unfolding ArgumentSql
  was_read = case_read Tag nothing (known unknown_tag argument_results) (follows argument_results) s st (sym (ap (λ (x : ReadState). x.cursor.refusal) e) ∙ z)

  result : Tagged argument_results s at was_read.0 was_read.1
  unfolding ArgumentSql
  result = tagged argument_results s at was_read.0 was_read.1 was_read.2

  pub result_left : at + 1 ≤ length s
  result_left = result.left

  pub verdict_error : get_or s at 0 ≢ 1 → verdict_on result_verdict (read ArgumentSql s at) ≡ wrong error_result
  verdict_error h = rw (was_read.2, result.first, ne_eqb (get_or s at 0) 1 h)

  module _ (h : get_or s at 0 ≡ 1) where
    mapping : Tagged sql_mappings s (at + 1) result.others was_read.1
    unfolding SqlMapping
    mapping = tagged sql_mappings s (at + 1) result.others was_read.1 (rw h at result.rest)

    pub mapping_left : at + 1 + 1 ≤ length s
    mapping_left = mapping.left

    pub verdict_mapping : verdict_on result_verdict (read ArgumentSql s at) ≡ as_or_numeric 1 (get_or s (at + 1) 0)
    verdict_mapping = rw (was_read.2, result.first, mapping.first, h)

-- The verdict on a result that was not refused
pub reader_judges : (s : List ℕ) (st : ReadState) → (((run ArgumentSql s st).cursor.refusal ≡ 0 → ⊥) → ⊥)
    → verdict_on result_verdict (read ArgumentSql s st.cursor.at) ≡ as_or_numeric (get_or s (st.cursor.at + 0) 0) (get_or s (st.cursor.at + 1) 0)
reader_judges s st h = rw add-zero (go (eqb (get_or s st.cursor.at 0) 1) refl (read_on (eqb (run ArgumentSql s st).cursor.refusal 0) refl))
  where
    read_on : (b : Bool) → eqb (run ArgumentSql s st).cursor.refusal 0 ≡ b → (run ArgumentSql s st).cursor.refusal ≡ 0
    read_on true e = eqb-true _ _ e
    read_on false e = absurd (h (eqb-false _ _ e))

    go : (b : Bool) → eqb (get_or s st.cursor.at 0) 1 ≡ b → (run ArgumentSql s st).cursor.refusal ≡ 0
        → verdict_on result_verdict (read ArgumentSql s st.cursor.at) ≡ as_or_numeric (get_or s st.cursor.at 0) (get_or s (st.cursor.at + 1) 0)
    go true e z = let k : get_or s st.cursor.at 0 ≡ 1 = eqb-true _ _ e in verdict_mapping s st _ refl z k ∙ rw k
    go false e z = let k = eqb-false _ _ e in verdict_error s st _ refl z k ∙ rw (ne_eqb _ _ k)
