-- The loop over the entities: one more is taken, and the rows end, the writer is refused, or others follow.
use Prim.Native.Nat.{ℕ, suc, ◌+◌, ◌-◌, ◌≤◌, ◌<◌}
use native.Mathlib.Nat.{sub-zero}
use native.Mathlib.Omega.{arith}
use mathlib.Core.Bool.{Bool, true, false}
use mathlib.Core.List.{List}
use mathlib.Core.Path.{◌≡◌, refl, sym, ap, ◌∙◌}
use lib.Dec.{eqb}
use borrow.Author.Tests.{eqb-true, eqb-false, eq-eqb, ne_eqb, le-leb, lt-leb}
use Rattle.layout.specs.Entities.{Entity}
use Rattle.layout.specs.Answers.{whole_rows}
use Rattle.pass.specs.Pass.{Runs}
use Rattle.writing.specs.State.{WriteState, stopped_once, length_taken}
use Rattle.writing.specs.Run.{consume}
use Rattle.entry_writer.specs.EntryWriter.{state_of, lent_of, writer_meaning}
use Rattle.entry_writer.specs.declared.EntryWriter.{EntryWriter}
use Rattle.section_writer.specs.Private.{consume_entry, consume_entities}

module _ (rows text : List ℕ) (left : ℕ) (w : WriteState) where
  module _ (h : 0 < left) (next : WriteState) (e : next ≡ consume_entry rows text w) where
    some : left ≡ suc (left - 1)
    some = omega arith

    entities_refused : (next.refusal ≡ 0 → ⊥) → next ≡ consume_entities rows text left w
    unfolding consume_entities
    entities_refused z = sym (rw (some, ← e, ne_eqb next.refusal 0 z))

    entities_last : next.refusal ≡ 0 → whole_rows rows ≤ next.row → next ≡ consume_entities rows text left w
    unfolding consume_entities
    entities_last z k = sym (rw (some, ← e, eq-eqb next.refusal 0 z, le-leb (whole_rows rows) next.row k))

    entities_more : next.refusal ≡ 0 → next.row < whole_rows rows → consume_entities rows text left w ≡ consume_entities rows text (left - 1) next
    unfolding consume_entities
    entities_more z k = ap (λ (n : ℕ). consume_entities rows text n w) some ∙ rw (← e, eq-eqb next.refusal 0 z, lt-leb (whole_rows rows) next.row k)

  entities_none : left ≡ 0 → stopped_once w ≡ consume_entities rows text left w
  unfolding consume_entities
  entities_none h = rw h

pub going : (n : ℕ) → ((n ≡ 0 → ⊥) → ⊥) → n ≡ 0
going n h = go (eqb n 0) refl
  where
    go : (b : Bool) → eqb n 0 ≡ b → n ≡ 0
    go true e = eqb-true n 0 e
    go false e = absurd (h (eqb-false n 0 e))

-- From q on at most n entities are taken, of which i are taken at r
pub record Remains (n i : ℕ) (q r : EntryWriter) : Type 0 where
  pub lent : lent_of r ≡ lent_of q
  pub state : consume_entities (lent_of q).0 (lent_of q).1 n (state_of q) ≡ consume_entities (lent_of q).0 (lent_of q).1 (n - i) (state_of r)

pub none_taken : {n : ℕ} {q : EntryWriter} → Remains n 0 q q
none_taken {n} {q} = record { lent = refl; state = ap (λ (k : ℕ). consume_entities (lent_of q).0 (lent_of q).1 k (state_of q)) (sym (sub-zero n)) }

-- The loop has taken all entities
pub record Taken (n : ℕ) (q r : EntryWriter) : Type 0 where
  pub lent : lent_of r ≡ lent_of q
  pub state : state_of r ≡ consume_entities (lent_of q).0 (lent_of q).1 n (state_of q)

-- One more entity: the length of its entry, then its rows
module _ {n i : ℕ} {q r p u : EntryWriter} (m : Remains n i q r) (h : i < n) (l : lent_of p ≡ lent_of r) (s : state_of p ≡ length_taken (state_of r)) (a : Runs writer_meaning Entity p u) where
  kept : lent_of u ≡ lent_of q
  kept = a.lent ∙ l ∙ m.lent

  entry : state_of u ≡ consume_entry (lent_of q).0 (lent_of q).1 (state_of r)
  entry = a.state ∙ ap (λ (x : List ℕ × List ℕ). consume Entity x.0 x.1 (state_of p)) (l ∙ m.lent) ∙ ap (consume Entity (lent_of q).0 (lent_of q).1) s

  pub refused_there : ((state_of u).refusal ≡ 0 → ⊥) → Taken n q u
  refused_there z = record { lent = kept; state = entities_refused _ _ (n - i) (state_of r) (omega arith) _ entry z ∙ sym m.state }

  pub last_there : n ≡ whole_rows (lent_of q).0 → (((state_of u).refusal ≡ 0 → ⊥) → ⊥) → n ≤ u.row → Taken n q u
  last_there w z k = record { lent = kept; state = entities_last _ _ (n - i) (state_of r) (omega arith) _ entry (going _ z) (omega arith) ∙ sym m.state }

  pub one_more : n ≡ whole_rows (lent_of q).0 → (((state_of u).refusal ≡ 0 → ⊥) → ⊥) → u.row < n → Remains n (i + 1) q u
  one_more w z k = record {
    lent = kept;
    state = m.state ∙ entities_more _ _ (n - i) (state_of r) (omega arith) _ entry (going _ z) (omega arith)
        ∙ ap (λ (j : ℕ). consume_entities (lent_of q).0 (lent_of q).1 j (state_of u)) (omega arith);
  }

-- No entity is left
pub none_left : {n i : ℕ} {q r u : EntryWriter} → Remains n i q r → n ≤ i → lent_of u ≡ lent_of r → state_of u ≡ stopped_once (state_of r) → Taken n q u
none_left {n} {i} {q} {r} {u} m h l s = record { lent = l ∙ m.lent; state = s ∙ entities_none _ _ (n - i) (state_of r) (omega arith) ∙ sym m.state }
