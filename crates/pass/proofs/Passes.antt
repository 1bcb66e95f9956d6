-- How a function passes over a part of a layout: one law for each form of layout.
use Prim.Native.Nat.{ℕ, zero, suc, ◌+◌, ◌-◌, ◌≤◌, ◌<◌}
use native.Mathlib.Omega.{arith}
use native.Mathlib.Nat.{sub-zero}
use mathlib.Core.Bool.{true, false}
use lib.Dec.{ltb}
use mathlib.Core.List.{◌++◌}
use mathlib.Core.Path.{◌≡◌, refl, sym, ap, ◌∙◌}
use Rattle.std.proofs.lemmas.Bool.{false≢true, lt-ltb}
use Rattle.layout.specs.Layout.{Layout, Fault, Kind, Tag, Flag, Count, unknown_kind, unknown_tag, Verdict, fine, wrong, refusal_of, nothing, one, ◌then◌}
use Rattle.layout.specs.Forms.{times, list, may, Tags, tags, tags_after, kinds, known, follows}
use Rattle.layout.specs.Entities.{ArgumentSql, DeclaredSql, result_verdict, as_or_numeric}
use Rattle.layout.specs.Machine.{pass, drive}
use Rattle.layout.proofs.Tables.{Outside, bare, of_two}
use Rattle.layout.proofs.Forms as forms
use Rattle.pass.specs.Pass.{Meaning, Runs, Halts, Stays, Judges, value_in}

module _ {P : Type 0} (M : Meaning P) where
  -- The machine that a function runs is the one that the next function runs
  handed : {p q : P} (L : Layout) (st : M.State) → M.lent q ≡ M.lent p → drive (M.machine (M.lent q)) L st ≡ drive (M.machine (M.lent p)) L st
  handed L st e = ap (λ (x : M.Lent). drive (M.machine x) L st) e

  value_handed : {p q : P} → M.lent q ≡ M.lent p → value_in M q ≡ (M.machine (M.lent p)).value (M.state q)
  value_handed {p} {q} e = ap (λ (x : M.Lent). (M.machine x).value (M.state q)) e

  -- Of n items from q on, i are passed over at r; the others are still to come
  pub record Remains (n i : ℕ) (L : Layout) (q r : P) : Type 0 where
    pub lent : M.lent r ≡ M.lent q
    pub state : drive (M.machine (M.lent q)) (times n L) (M.state q) ≡ drive (M.machine (M.lent q)) (times (n - i) L) (M.state r)

module _ {P : Type 0} {M : Meaning P} where
  -- A refusal of what began at p
  halted : {number place : ℕ} {p q r : P} → place ≡ M.place (M.state p) → M.lent q ≡ M.lent p → (f : Fault) → refusal_of f ≡ number → Halts M number place q r
      → M.state r ≡ (M.machine (M.lent p)).halt f (M.state p) (M.state q)
  halted {number} {place} {p} {q} {r} b e f n h = h.state f (M.state p) n (sym b) ∙ ap (λ (x : M.Lent). (M.machine x).halt f (M.state p) (M.state q)) e

  pub nothing_in : {p : P} → Runs M nothing p p
  unfolding drive
  nothing_in = record { lent = refl; state = refl }

  -- A sequence: A, then B
  pub then_in : {A B : Layout} {p q r : P} → Runs M A p q → Runs M B q r → Runs M (A then B) p r
  then_in {A} {B} {p} {q} {r} a b = record {
    lent = b.lent ∙ a.lent;
    state = forms.then_in A B (M.machine (M.lent p)) _ _ _ a.state (b.state ∙ handed M B (M.state q) a.lent);
  }

  -- "May": a flag, then the optional part unless the flag is 0
  pub may_in : {L : Layout} {p q r : P} → Runs M (one Flag) p q → (value_in M q ≡ 0 → ⊥) → Runs M L q r → Runs M (may L) p r
  may_in {L} {p} {q} {r} a h b = record {
    lent = b.lent ∙ a.lent;
    state = forms.may_in L (M.machine (M.lent p)) _ _ _ a.state (λ z. h (value_handed M a.lent ∙ z)) (b.state ∙ handed M L (M.state q) a.lent);
  }

  pub may_out : {L : Layout} {p q : P} → Runs M (one Flag) p q → value_in M q ≡ 0 → Runs M (may L) p q
  may_out {L} {p} {q} a h = record { lent = a.lent; state = forms.may_out L (M.machine (M.lent p)) _ _ a.state (sym (value_handed M a.lent) ∙ h) }

  -- A list: a count, then that many items
  pub list_in : {L : Layout} {n : ℕ} {p q r : P} → Runs M (one Count) p q → n ≡ value_in M q → Runs M (times n L) q r → Runs M (list L) p r
  list_in {L} {n} {p} {q} {r} a e b = record {
    lent = b.lent ∙ a.lent;
    state = forms.list_in L (M.machine (M.lent p)) _ _ _ a.state
        (b.state ∙ handed M (times n L) (M.state q) a.lent ∙ ap (λ (k : ℕ). drive (M.machine (M.lent p)) (times k L) (M.state q)) (e ∙ value_handed M a.lent));
  }

  pub none_passed : {n : ℕ} {L : Layout} {q : P} → Remains M n 0 L q q
  none_passed {n} {L} {q} = record { lent = refl; state = ap (λ (k : ℕ). drive (M.machine (M.lent q)) (times k L) (M.state q)) (sym (sub-zero n)) }

  pub one_more : {n i : ℕ} {L : Layout} {q r u : P} → Remains M n i L q r → i < n → Runs M L r u → Remains M n (i + 1) L q u
  one_more {n} {i} {L} {q} {r} {u} m h a = record {
    lent = a.lent ∙ m.lent;
    state = forms.loop_on n i L (M.machine (M.lent q)) _ _ _ m.state h (a.state ∙ handed M L (M.state r) m.lent);
  }

  pub all_passed : {n i : ℕ} {L : Layout} {q r : P} → Remains M n i L q r → n ≤ i → Runs M (times n L) q r
  all_passed {n} {i} {L} {q} {r} m h = record { lent = m.lent; state = forms.loop_end n i L (M.machine (M.lent q)) _ _ m.state h }

  -- A refused pass has nothing to come
  pub refused_passed : {n i : ℕ} {L : Layout} {q r : P} → Stays M → Remains M n i L q r → M.refused (M.state r) → Runs M (times n L) q r
  refused_passed {n} {i} {L} {q} {r} s m h = record { lent = m.lent; state = sym (m.state ∙ s.over (M.lent q) (times (n - i) L) (M.state r) h) }

  -- A tag n, and what comes of it by a table
  module _ (rows : Tags) {n : ℕ} {p q : P} (a : Runs M (one Tag) p q) (v : n ≡ value_in M q) where
    there : (M.machine (M.lent p)).value (M.state q) ≡ n
    there = sym (v ∙ value_handed M a.lent)

    -- A known tag b, then what follows it. `refl` proves that a numeral is known
    pub tags_in : (b : ℕ) {r : P} → n ≡ b → known unknown_tag rows b ≡ fine → Runs M (follows rows b) q r → Runs M (tags rows) p r
    tags_in b {r} h k f = record {
      lent = f.lent ∙ a.lent;
      state = forms.tags_in rows b (M.machine (M.lent p)) _ _ _ a.state (there ∙ h) k (f.state ∙ handed M (follows rows b) (M.state q) a.lent);
    }

    -- One of two neighbours, with the same part after both
    pub tags_of_two : (b : ℕ) {r : P} → b ≤ n → n < b + 2 → known unknown_tag rows b ≡ fine → known unknown_tag rows (b + 1) ≡ fine
        → Runs M (follows rows b) q r → Runs M (follows rows (b + 1)) q r → Runs M (tags rows) p r
    tags_of_two b l h k₁ k₂ f₁ f₂ = of_two b n l h (λ e. tags_in b e k₁ f₁) (λ e. tags_in (b + 1) e k₂ f₂)

    -- An unknown tag, refused for the place where it began
    pub tags_wrong : {number place : ℕ} {r : P} → place ≡ M.place (M.state p) → Outside rows n → refusal_of unknown_tag ≡ number → Halts M number place q r
        → Runs M (tags rows) p r
    tags_wrong {number} {place} {r} b o e h = record {
      lent = h.lent ∙ a.lent;
      state = forms.tags_wrong rows (M.machine (M.lent p)) _ _ _ a.state (rw (sym there) at o) (halted b a.lent unknown_tag e h);
    }

    -- A tag that is judged only after A
    module _ (A : Layout) {u : P} (m : Runs M A q u) where
      pub after_in : (b : ℕ) {r : P} → n ≡ b → known unknown_tag rows b ≡ fine → Runs M (follows rows b) u r → Runs M (tags_after A rows) p r
      after_in b {r} h k f = record {
        lent = f.lent ∙ m.lent ∙ a.lent;
        state = forms.after_in A rows b (M.machine (M.lent p)) _ _ _ _ a.state (m.state ∙ handed M A (M.state q) a.lent) (there ∙ h) k
            (f.state ∙ handed M (follows rows b) (M.state u) (m.lent ∙ a.lent));
      }

      pub after_of_two : (b : ℕ) {r : P} → b ≤ n → n < b + 2 → known unknown_tag rows b ≡ fine → known unknown_tag rows (b + 1) ≡ fine
          → Runs M (follows rows b) u r → Runs M (follows rows (b + 1)) u r → Runs M (tags_after A rows) p r
      after_of_two b l h k₁ k₂ f₁ f₂ = of_two b n l h (λ e. after_in b e k₁ f₁) (λ e. after_in (b + 1) e k₂ f₂)

      pub after_wrong : {number place : ℕ} {r : P} → place ≡ M.place (M.state p) → Outside rows n → refusal_of unknown_tag ≡ number → Halts M number place u r
          → Runs M (tags_after A rows) p r
      after_wrong {number} {place} {r} b o e h = record {
        lent = h.lent ∙ m.lent ∙ a.lent;
        state = forms.after_wrong A rows (M.machine (M.lent p)) _ _ _ _ a.state (m.state ∙ handed M A (M.state q) a.lent) (rw (sym there) at o)
            (halted b (m.lent ∙ a.lent) unknown_tag e h);
      }

  -- Of n known tags from b on with nothing after them, any
  pub tags_bare : (b k : ℕ) (rows : Tags) {n : ℕ} {p q : P} → Runs M (one Tag) p q → n ≡ value_in M q → b ≤ n → n < b + k → Runs M (tags (bare b k ++ rows)) p q
  tags_bare b k rows {n} {p} {q} a v l h = record {
    lent = a.lent;
    state = forms.tags_bare b k rows (M.machine (M.lent p)) _ _ a.state (rw (v ∙ value_handed M a.lent) at l) (rw (v ∙ value_handed M a.lent) at h);
  }

  -- The kind of an entity
  module _ (rows : Tags) {n : ℕ} {p q : P} (a : Runs M (one Kind) p q) (v : n ≡ value_in M q) where
    pub kinds_in : (b : ℕ) {r : P} → n ≡ b → known unknown_kind rows b ≡ fine → Runs M (follows rows b) q r → Runs M (kinds rows) p r
    kinds_in b {r} h k f = record {
      lent = f.lent ∙ a.lent;
      state = forms.kinds_in rows b (M.machine (M.lent p)) _ _ _ a.state (sym (v ∙ value_handed M a.lent) ∙ h) k (f.state ∙ handed M (follows rows b) (M.state q) a.lent);
    }

    pub kinds_of_two : (b : ℕ) {r : P} → b ≤ n → n < b + 2 → known unknown_kind rows b ≡ fine → known unknown_kind rows (b + 1) ≡ fine
        → Runs M (follows rows b) q r → Runs M (follows rows (b + 1)) q r → Runs M (kinds rows) p r
    kinds_of_two b l h k₁ k₂ f₁ f₂ = of_two b n l h (λ e. kinds_in b e k₁ f₁) (λ e. kinds_in (b + 1) e k₂ f₂)

    pub kinds_wrong : {number place : ℕ} {r : P} → place ≡ M.place (M.state p) → Outside rows n → refusal_of unknown_kind ≡ number → Halts M number place q r
        → Runs M (kinds rows) p r
    kinds_wrong {number} {place} {r} b o e h = record {
      lent = h.lent ∙ a.lent;
      state = forms.kinds_wrong rows (M.machine (M.lent p)) _ _ _ a.state (rw (v ∙ value_handed M a.lent) at o) (halted b a.lent unknown_kind e h);
    }

  -- The result of a declaration: refused as it was read; let in; or refused by what it is
  module _ {p q : P} (a : Runs M ArgumentSql p q) where
    pub result_refused : Stays M → M.refused (M.state q) → Runs M DeclaredSql p q
    unfolding DeclaredSql
    result_refused s h = record {
      lent = a.lent;
      state = forms.check_law ArgumentSql result_verdict (M.machine (M.lent p)) _ _ _ a.state (sym (stays ((M.machine (M.lent p)).verdict ArgumentSql result_verdict (M.state p))));
    }
      where
        stays : (v : Verdict) → pass (M.machine (M.lent p)) v (M.state p) (M.state q) ≡ M.state q
        stays fine = refl
        stays (wrong f) = s.halted (M.lent p) f (M.state p) (M.state q) h

    judged : {place x y : ℕ} → place ≡ M.place (M.state p) → x ≡ M.seen (M.lent q) place 0 → y ≡ M.seen (M.lent q) place 1
        → as_or_numeric (M.seen (M.lent p) (M.place (M.state p)) 0) (M.seen (M.lent p) (M.place (M.state p)) 1) ≡ as_or_numeric x y
    judged b x y = rw (← a.lent, ← b, ← x, ← y)

    module _ (j : Judges M) (h : M.refused (M.state q) → ⊥) where
      verdict : (M.machine (M.lent p)).verdict ArgumentSql result_verdict (M.state p) ≡ as_or_numeric (M.seen (M.lent p) (M.place (M.state p)) 0) (M.seen (M.lent p) (M.place (M.state p)) 1)
      verdict = j (M.lent p) (M.state p) (λ k. h (rw a.state k))

      pub result_in : {place x y : ℕ} → place ≡ M.place (M.state p) → x ≡ M.seen (M.lent q) place 0 → y ≡ M.seen (M.lent q) place 1 → as_or_numeric x y ≡ fine → Runs M DeclaredSql p q
      unfolding DeclaredSql
      result_in b x y e = record {
        lent = a.lent;
        state = forms.check_law ArgumentSql result_verdict (M.machine (M.lent p)) _ _ _ a.state (rw (verdict ∙ judged b x y ∙ e));
      }

      pub result_wrong : (f : Fault) {number place x y : ℕ} {r : P} → place ≡ M.place (M.state p) → x ≡ M.seen (M.lent q) place 0 → y ≡ M.seen (M.lent q) place 1
          → as_or_numeric x y ≡ wrong f → refusal_of f ≡ number → Halts M number place q r → Runs M DeclaredSql p r
      unfolding DeclaredSql
      result_wrong f b x y e n k = record {
        lent = k.lent ∙ a.lent;
        state = forms.check_law ArgumentSql result_verdict (M.machine (M.lent p)) _ _ _ a.state (rw (verdict ∙ judged b x y ∙ e) (halted b a.lent f n k));
      }

-- What the test of a flag says
pub is_set : (v : ℕ) → ltb 0 v ≡ true → v ≡ 0 → ⊥
is_set zero e z = absurd (false≢true e)
is_set (suc n) e z = omega (arith, z)

pub not_set : (v : ℕ) → ltb 0 v ≡ false → v ≡ 0
not_set zero e = refl
not_set (suc n) e = absurd (false≢true (sym e ∙ lt-ltb 0 (suc n) (omega arith)))
