-- What the search gives is the one outcome that holds.
use Prim.Native.Nat.{ℕ, zero, suc, ◌+◌, ◌-◌, ◌≤◌, ◌<◌}
use native.Mathlib.Omega.{arith}
use mathlib.Core.Bool.{Bool, true, false, not, and-eq-true_iff}
use mathlib.Core.List.{List, [], ◌∷◌, ◌++◌, append_assoc}
use mathlib.Core.Path.{◌≡◌, refl, sym, ap, ◌∙◌}
use lib.Dec.{eqb, ltb}
use lib.ListN.{length, get_or, take, drop, length-append, take-append-drop}
use lib.Seq.{take-append-le, take_all}
use borrow.Author.Tests.{leb-true, ltb-true, ltb-false, eqb-true, eqb-false, eq-eqb, ne_eqb, le-leb}
use borrow.Author.Tests as tests
use Rattle.layout.specs.Reading.{Outcome, ok, refuse}
use Rattle.layout.proofs.BadReads.{not_true}
use Rattle.raw_bytes.specs.Bytes.{same}
use Rattle.raw_bytes.proofs.Compared.{same_sound, same_refl}
use Rattle.elf.specs.Elf.{e_shnum, sh_type, elfmag, sht_nobits, of_file, header_at, of_header, Elf64, SectionTables, SectionName, NamedAt, Matches, FirstMatch}
use Rattle.elf.specs.Finding.{ExactFinding, other_file, no_tables, no_match, no_bytes, past_end, found}
use Rattle.elf.specs.Find.{is_elf64, ends_in_file, has_tables, no_zero, is_name, is_named_at, header_section, first_named, find_section}
use Rattle.elf.specs.Theorems.{FindingExact, FoundLies}
use Rattle.elf.proofs.Steps.{elf_size, ends_in, ends_so, tables_sound, tables_complete, section_nobits, section_past, section_there, has_name, find_18, find_19, find_20, find_search}

pub by_cases : {A : Type 0} (b : Bool) → (b ≡ true → A) → (b ≡ false → A) → A
by_cases true f g = f refl
by_cases false f g = g refl

pub both : {A : Type 0} {b : Bool} → b ≡ true → b ≡ false → A
both {A} {b} e f = let z : true ≡ false = sym e ∙ f in let n : ◌≡◌ {A = ℕ} 0 1 = cc in absurd (omega arith)

-- Each test is its condition
elf_sound : (file : List ℕ) → is_elf64 file ≡ true → Elf64 file
unfolding is_elf64
elf_sound file e =
    let (a, e₁) = (and-eq-true_iff _ _).0 e in
    let (b, e₂) = (and-eq-true_iff _ _).0 e₁ in
    let (c, e₃) = (and-eq-true_iff _ _).0 e₂ in
    let (d, f) = (and-eq-true_iff _ _).0 e₃ in
    record { long = leb-true _ _ a; magic = same_sound (take 4 file) elfmag b; class = eqb-true _ _ c; order = eqb-true _ _ d; header_size = eqb-true _ _ f }

elf_complete : (file : List ℕ) → Elf64 file → is_elf64 file ≡ true
elf_complete file h =
    let m : same (take 4 file) elfmag ≡ true = rw h.magic in
    elf_size file h.long m h.class h.order ∙ eq-eqb _ 64 h.header_size

no_zero_sound : (s : List ℕ) → no_zero s ≡ true → (i : ℕ) → i < length s → get_or s i 0 ≡ 0 → ⊥
no_zero_sound [] e i h z = omega arith
no_zero_sound (b ∷ s) e zero h z = eqb-false b 0 (tests.not-true _ ((and-eq-true_iff (not (eqb b 0)) (no_zero s)).0 e).0) z
no_zero_sound (b ∷ s) e (suc i) h z = no_zero_sound s ((and-eq-true_iff (not (eqb b 0)) (no_zero s)).0 e).1 i (omega arith) z

no_zero_complete : (s : List ℕ) → ((i : ℕ) → i < length s → get_or s i 0 ≡ 0 → ⊥) → no_zero s ≡ true
no_zero_complete [] f = refl
no_zero_complete (b ∷ s) f = rw (ne_eqb b 0 (f 0 (omega arith)), no_zero_complete s (λ i h. f (suc i) (omega arith)))

name_sound : (name : List ℕ) → is_name name ≡ true → SectionName name
unfolding is_name
name_sound name e =
    let (a, b) = (and-eq-true_iff _ _).0 e in
    record { some = leb-true _ _ a; no_zero = no_zero_sound name b }

name_complete : (name : List ℕ) → SectionName name → is_name name ≡ true
unfolding is_name
name_complete name h = rw (le-leb 1 (length name) h.some, no_zero_complete name h.no_zero)

module _ (table : List ℕ) (offset : ℕ) (name : List ℕ) where
  named_sound : is_named_at table offset name ≡ true → NamedAt table offset name
  unfolding is_named_at
  named_sound e =
      let l = drop offset table in
      let n = suc (length name) in
      record {
        rest = drop n l;
        there =
            sym (take-append-drop n l)
            ∙ ap (λ (t : List ℕ). t ++ drop n l) (same_sound (take n l) (name ++ (0 ∷ [])) e)
            ∙ append_assoc name (0 ∷ []) (drop n l);
      }

  named_complete : NamedAt table offset name → is_named_at table offset name ≡ true
  unfolding is_named_at
  named_complete h =
      let n = suc (length name) in
      let m : length (name ++ (0 ∷ [])) ≡ n = length-append name (0 ∷ []) ∙ omega arith in
      let k : take n (drop offset table) ≡ name ++ (0 ∷ []) =
      ap (take n) (h.there ∙ sym (append_assoc name (0 ∷ []) h.rest))
      ∙ take-append-le n (name ++ (0 ∷ [])) h.rest (omega arith)
      ∙ take_all n (name ++ (0 ∷ [])) (omega arith)
      in
      rw k (same_refl (name ++ (0 ∷ [])))

module _ (file name : List ℕ) where
  match_test : (i : ℕ) → Matches file name i → has_name file name i ≡ true
  match_test i m = named_complete _ _ name m.named

  pub test_match : is_name name ≡ true → (i : ℕ) → 1 ≤ i → i < of_file file e_shnum → has_name file name i ≡ true → Matches file name i
  test_match n i h k e = record { proper = name_sound name n; from = h; below = k; named = named_sound _ _ name e }

  pub none_before : (i : ℕ) → ((j : ℕ) → j < i → Matches file name j → ⊥) → has_name file name i ≡ false → (j : ℕ) → j < i + 1 → Matches file name j → ⊥
  none_before i f e j h m =
      by_cases (ltb j i) (λ t. f j (ltb-true j i t) m) λ t.
      let k : j ≡ i = omega (arith, ltb-false j i t) in
      both (rw k at (match_test j m)) e

-- The outcome of the search holds
module _ (file name : List ℕ) (elf : Elf64 file) (tables : SectionTables file) where
  section_exact : (i : ℕ) → FirstMatch file name i → ExactFinding file name (header_section file (header_at file i))
  section_exact i f =
      by_cases (eqb (of_header file i sh_type) sht_nobits)
      (λ e. let t : of_header file i sh_type ≡ sht_nobits = eqb-true _ _ e in rw (section_nobits file (header_at file i) t) (no_bytes elf tables f t))
      λ e.
      let t : of_header file i sh_type ≡ sht_nobits → ⊥ = eqb-false _ _ e in
      by_cases (ends_in_file file (header_at file i))
      (λ k. rw (section_there file (header_at file i) t k) (found elf tables f t (ends_so file (header_at file i) k)))
      (λ k. rw (section_past file (header_at file i) t k) (past_end elf tables f t (λ h. both (ends_in file (header_at file i) h) k)))

  first_exact : is_name name ≡ true → (n i : ℕ) → 1 ≤ i → i + n ≡ of_file file e_shnum → ((j : ℕ) → j < i → Matches file name j → ⊥) → ExactFinding file name (first_named file name n i)
  unfolding first_named
  first_exact u zero i h k f = no_match elf tables λ j m. f j (omega (arith, m.below)) m
  first_exact u (suc n) i h k f =
      by_cases (has_name file name i)
      (λ e. rw e (section_exact i (record { match = test_match file name u i h (omega arith) e; before = f })))
      (λ e. rw e (first_exact u n (i + 1) (omega arith) (omega arith) (none_before file name i f e)))

pub find_sound : (file name : List ℕ) → ExactFinding file name (find_section file name)
find_sound file name =
    by_cases (is_elf64 file) (λ a.
    let elf = elf_sound file a in
    by_cases (has_tables file) (λ b.
    let tables = tables_sound file b in
    by_cases (is_name name)
    (λ c. rw (find_search file name a b c) (first_exact file name elf tables c (of_file file e_shnum - 1) 1 (omega arith) (omega (arith, tables.some)) (λ j h m. omega (arith, m.from))))
    (λ c. rw (find_20 file name a b c) (no_match elf tables (λ i m. both (name_complete name m.proper) c))))
    (λ b. rw (find_19 file name a b) (no_tables elf (λ t. both (tables_complete file t) b))))
    (λ a. rw (find_18 file name a) (other_file (λ e. both (elf_complete file e) a)))

-- An outcome that holds is that of the search
module _ (file name : List ℕ) where
  first_none : (n i : ℕ) → ((j : ℕ) → i ≤ j → j < i + n → has_name file name j ≡ false) → first_named file name n i ≡ refuse 20 0
  unfolding first_named
  first_none zero i f = refl
  first_none (suc n) i f = rw (f i (omega arith) (omega arith)) (first_none n (i + 1) (λ j h k. f j (omega arith) (omega arith)))

  first_finds : (n i k : ℕ) → i ≤ k → k < i + n → has_name file name k ≡ true → ((j : ℕ) → i ≤ j → j < k → has_name file name j ≡ false) → first_named file name n i ≡ header_section file (header_at file k)
  unfolding first_named
  first_finds zero i k h l e f = absurd (omega arith)
  first_finds (suc n) i k h l e f =
      by_cases (ltb i k)
      (λ t. let m : i < k = ltb-true i k t in rw (f i (omega arith) m) (first_finds n (i + 1) k (omega arith) (omega arith) e (λ j g. f j (omega arith))))
      (λ t. let m : i ≡ k = omega (arith, ltb-false i k t) in rw m (rw e))

  module _ (elf : Elf64 file) (tables : SectionTables file) where
    found_first : (i : ℕ) → FirstMatch file name i → find_section file name ≡ header_section file (header_at file i)
    found_first i f =
        let m = f.match in
        let u : is_name name ≡ true = name_complete name m.proper in
        find_search file name (elf_complete file elf) (tables_complete file tables) u
        ∙ first_finds (of_file file e_shnum - 1) 1 i m.from (omega (arith, m.below)) (match_test file name i m)
        (λ j h k. not_true _ λ e. f.before j k (test_match file name u j h (omega (arith, m.below)) e))

    found_none : ((i : ℕ) → Matches file name i → ⊥) → find_section file name ≡ refuse 20 0
    found_none f =
        by_cases (is_name name)
        (λ u. find_search file name (elf_complete file elf) (tables_complete file tables) u
        ∙ first_none (of_file file e_shnum - 1) 1 (λ j h k. not_true _ λ e. f j (test_match file name u j h (omega arith) e)))
        (λ u. find_20 file name (elf_complete file elf) (tables_complete file tables) u)

  find_complete : (a : Outcome ℕ ℕ) → ExactFinding file name a → find_section file name ≡ a
  find_complete _ (other_file f) = find_18 file name (not_true _ λ e. f (elf_sound file e))
  find_complete _ (no_tables elf f) = find_19 file name (elf_complete file elf) (not_true _ λ e. f (tables_sound file e))
  find_complete _ (no_match elf tables f) = found_none elf tables f
  find_complete _ (no_bytes elf tables {i} f t) = found_first elf tables i f ∙ section_nobits file (header_at file i) t
  find_complete _ (past_end elf tables {i} f t h) = found_first elf tables i f ∙ section_past file (header_at file i) t (not_true _ λ e. h (ends_so file (header_at file i) e))
  find_complete _ (found elf tables {i} f t h) = found_first elf tables i f ∙ section_there file (header_at file i) t (ends_in file (header_at file i) h)

pub finding_exact : FindingExact
finding_exact file name a = (λ e. rw e at (find_sound file name), find_complete file name a)

-- The second clause, from the first
pub exact_told : (file name : List ℕ) (a : Outcome ℕ ℕ) → a ≡ find_section file name → ExactFinding file name a
exact_told file name a e = rw (← e) at (find_sound file name)

-- A section that is found lies in the file
abbrev Lies : List ℕ → Outcome ℕ ℕ → Type 0
Lies file (ok start end) = (start ≤ end) × (end ≤ length file)
Lies file (refuse n p) = Unit {0}

lies : (file name : List ℕ) (a : Outcome ℕ ℕ) → ExactFinding file name a → Lies file a
lies file name _ (other_file f) = tt
lies file name _ (no_tables elf f) = tt
lies file name _ (no_match elf tables f) = tt
lies file name _ (no_bytes elf tables f t) = tt
lies file name _ (past_end elf tables f t h) = tt
lies file name _ (found elf tables f t h) = (omega arith, h)

pub found_lies : FoundLies
found_lies file name start end e = lies file name (ok start end) e
