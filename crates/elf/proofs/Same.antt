-- Files that are alike in what leads to a section give the same outcome.
use Prim.Native.Nat.{ℕ, zero, suc, ◌+◌, ◌*◌, ◌-◌, ◌≤◌, ◌<◌}
use native.Mathlib.Omega.{arith}
use mathlib.Core.Bool.{true}
use mathlib.Core.List.{List, [], ◌∷◌, ◌++◌}
use mathlib.Core.Logic.{◌↔◌}
use mathlib.Core.Path.{◌≡◌, refl, sym, ap, ◌∙◌}
use lib.Dec.{leb}
use lib.ListN.{length, get_or, take, drop, length-take, length-drop}
use lib.Seq.{ext_get_or, get_or-take, get_or-drop, length-take-le}
use borrow.Author.Tests.{leb-true, leb-false, le-leb}
use Rattle.layout.specs.Reading.{Outcome, ok, refuse}
use Rattle.layout.proofs.BadReads.{not_true}
use Rattle.raw_bytes.specs.Bytes.{same}
use Rattle.place.specs.Place.{between, part_of}
use Rattle.place.proofs.Between.{length_between}
use Rattle.elf.specs.Elf.{little, HeaderField, e_shoff, e_shentsize, e_shnum, sh_name, sh_type, sh_offset, sh_size, of_file, header_at, headers_end, of_header, section_end, section_in, name_table, SectionTables, Matches, FirstMatch}
use Rattle.elf.specs.Finding.{ExactFinding}
use Rattle.elf.specs.Find.{is_elf64, ends_in_file, has_tables, is_name, is_named_at, header_section, first_named, find_section}
use Rattle.elf.specs.Reads.{Among, InField, LookedAt, in_ident, in_shoff, in_shentsize, in_shnum, in_shstrndx, in_names_offset, in_names_size, in_name_offset, in_name, in_type, in_offset, in_size, in_section, EndTested, file_header_end_tested, headers_end_tested, names_end_tested, section_end_tested, Alike}
use Rattle.elf.specs.Theorems.{SameFinding}
use Rattle.elf.proofs.Steps.{tables_sound, has_name, find_18, find_19, find_20, find_search}
use Rattle.elf.proofs.Exact.{by_cases, test_match, none_before, find_sound, found_lies}

little_same : (n : ℕ) (s t : List ℕ) (at : ℕ) → ((k : ℕ) → Among at n k → get_or s k 0 ≡ get_or t k 0) → little n s at ≡ little n t at
unfolding little
little_same zero s t at f = refl
little_same (suc n) s t at f =
    let a : get_or s at 0 ≡ get_or t at 0 = f at (omega arith, omega arith) in
    let b : little n s (at + 1) ≡ little n t (at + 1) = little_same n s t (at + 1) (λ k h. f k (omega arith, omega arith)) in
    omega arith

-- Parts of two lists that reach as far
part_same : (s t : List ℕ) (start len : ℕ) → start + len ≤ length s → start + len ≤ length t → ((k : ℕ) → Among start len k → get_or s k 0 ≡ get_or t k 0)
    → take len (drop start s) ≡ take len (drop start t)
part_same s t start len h k f =
    let a : length (take len (drop start s)) ≡ len = length-take-le len (drop start s) (omega (arith, length-drop start s)) in
    let b : length (take len (drop start t)) ≡ len = length-take-le len (drop start t) (omega (arith, length-drop start t)) in
    ext_get_or 0 (take len (drop start s)) (take len (drop start t)) (a ∙ sym b) λ i g.
    let l : i < len = omega arith in
    get_or-take len (drop start s) i 0 l ∙ get_or-drop start s i 0 ∙ f (start + i) (omega arith, omega arith)
    ∙ sym (get_or-take len (drop start t) i 0 l ∙ get_or-drop start t i 0)

-- What is seen of a part from an offset on, and of the same part of another list
module _ (start size off n : ℕ) where
  abbrev part : List ℕ → List ℕ
  part s = between s start (start + size)

  abbrev seen : List ℕ → List ℕ
  seen s = take n (drop off (part s))

  part_length : (s : List ℕ) → start + size ≤ length s → length (part s) ≡ size
  part_length s h = length_between s start (start + size) (omega arith) h ∙ omega arith

  seen_byte : (s : List ℕ) (i : ℕ) → i < n → off + i < size → get_or (seen s) i 0 ≡ get_or s (start + (off + i)) 0
  seen_byte s i h k =
      get_or-take n (drop off (part s)) i 0 h ∙ get_or-drop off (part s) i 0
      ∙ get_or-take (start + size - start) (drop start s) (off + i) 0 (omega arith) ∙ get_or-drop start s (off + i) 0

  seen_same : (s t : List ℕ) → start + size ≤ length s → start + size ≤ length t → ((k : ℕ) → Among (start + off) n k → k < start + size → get_or s k 0 ≡ get_or t k 0)
      → seen s ≡ seen t
  seen_same s t h k f =
      let a : length (seen s) ≡ length (seen t) = omega (arith, length-take n (drop off (part s)), length-take n (drop off (part t)), length-drop off (part s), length-drop off (part t), part_length s h, part_length t k) in
      ext_get_or 0 (seen s) (seen t) a λ i g.
      let l : i < n = omega (arith, length-take n (drop off (part s))) in
      let m : off + i < size = omega (arith, length-take n (drop off (part s)), length-drop off (part s), part_length s h) in
      seen_byte s i l m ∙ f (start + (off + i)) (omega arith, omega arith) (omega arith) ∙ sym (seen_byte t i l m)

-- All that is seen of a table
named_seen : (t u : List ℕ) (off : ℕ) (name : List ℕ) → take (suc (length name)) (drop off t) ≡ take (suc (length name)) (drop off u) → is_named_at t off name ≡ is_named_at u off name
unfolding is_named_at
named_seen t u off name e = ap (λ (l : List ℕ). same l (name ++ (0 ∷ []))) e

-- Tests of one end against two lengths
leb_same : (e m n : ℕ) → (e ≤ m) ↔ (e ≤ n) → leb e m ≡ leb e n
leb_same e m n f =
    by_cases (leb e m)
    (λ t. t ∙ sym (le-leb e n (f.0 (leb-true e m t))))
    (λ t. t ∙ sym (not_true (leb e n) λ u. let l : e ≤ m = f.1 (leb-true e n u) in omega (arith, leb-false e m t)))

module _ (file other given : List ℕ) (alike : Alike file other given) where
  -- The fields of the file header
  e_off : of_file file e_shoff ≡ of_file other e_shoff
  e_off = little_same 8 file other 40 (λ k h. alike.same_bytes k (in_shoff h))

  e_size : of_file file e_shentsize ≡ of_file other e_shentsize
  e_size = little_same 2 file other 58 (λ k h. alike.same_bytes k (in_shentsize h))

  e_num : of_file file e_shnum ≡ of_file other e_shnum
  e_num = little_same 2 file other 60 (λ k h. alike.same_bytes k (in_shnum h))

  e_names : name_table file ≡ name_table other
  e_names = little_same 2 file other 62 (λ k h. alike.same_bytes k (in_shstrndx h))

  end_same : (e : ℕ) → EndTested file given e → leb e (length file) ≡ leb e (length other)
  end_same e t = leb_same e (length file) (length other) (alike.same_ends e t)

  -- A field of section header i
  field_same : (g : HeaderField) (i : ℕ) → ((k : ℕ) → InField (header_at file i) g k → get_or file k 0 ≡ get_or other k 0) → of_header file i g ≡ of_header other i g
  field_same g i h = little_same g.size file other (header_at file i + g.offset) h ∙ ap (λ (n : ℕ). little g.size other (n + 64 * i + g.offset)) e_off

  elf_same : is_elf64 file ≡ is_elf64 other
  unfolding is_elf64
  elf_same =
      let l = end_same 64 file_header_end_tested in
      let c : get_or file 4 0 ≡ get_or other 4 0 = alike.same_bytes 4 (in_ident (omega arith)) in
      let d : get_or file 5 0 ≡ get_or other 5 0 = alike.same_bytes 5 (in_ident (omega arith)) in
      let s = e_size in
      by_cases (leb 64 (length other))
      (λ t.
      let h : 64 ≤ length file = leb-true 64 (length file) (l ∙ t) in
      let k : 64 ≤ length other = leb-true 64 (length other) t in
      let m : take 4 file ≡ take 4 other = part_same file other 0 4 (omega arith) (omega arith) (λ n g. alike.same_bytes n (in_ident (omega arith))) in
      rw (l, m, c, d, s))
      (λ t. rw (l, t))

  -- The section name table
  o_same : of_header file (name_table file) sh_offset ≡ of_header other (name_table other) sh_offset
  o_same = field_same sh_offset (name_table file) (λ k h. alike.same_bytes k (in_names_offset h)) ∙ ap (λ (i : ℕ). of_header other i sh_offset) e_names

  s_same : of_header file (name_table file) sh_size ≡ of_header other (name_table other) sh_size
  s_same = field_same sh_size (name_table file) (λ k h. alike.same_bytes k (in_names_size h)) ∙ ap (λ (i : ℕ). of_header other i sh_size) e_names

  ends_same : (i j : ℕ) → EndTested file given (section_end file i) → of_header file i sh_offset ≡ of_header other j sh_offset → of_header file i sh_size ≡ of_header other j sh_size
      → ends_in_file file (header_at file i) ≡ ends_in_file other (header_at other j)
  unfolding ends_in_file
  ends_same i j t a b = end_same (section_end file i) t ∙ rw (a, b)

  tables_same : has_tables file ≡ has_tables other
  unfolding has_tables
  tables_same =
      let h = end_same (headers_end file) headers_end_tested in
      let a = ends_same (name_table file) (name_table other) names_end_tested o_same s_same in
      let n = e_num in
      let o = e_off in
      let m = e_names in
      rw (h, a, n, o, m)

  -- A header
  module _ (tables : SectionTables file) (others : SectionTables other) (i : ℕ) (looked : LookedAt file given i) where
    offset_same : of_header file i sh_name ≡ of_header other i sh_name
    offset_same = field_same sh_name i (λ k h. alike.same_bytes k (in_name_offset looked h))

    name_same : has_name file given i ≡ has_name other given i
    name_same =
        let start = of_header file (name_table file) sh_offset in
        let size = of_header file (name_table file) sh_size in
        let off = of_header file i sh_name in
        let a = o_same in
        let b = s_same in
        let t : between other start (start + size) ≡ section_in other (name_table other) = rw (a, b) in
        named_seen (section_in file (name_table file)) (between other start (start + size)) off given
        (seen_same start size off (suc (length given)) file other tables.names (omega (arith, others.names, a, b)) (λ k g l. alike.same_bytes k (in_name looked (g.0, omega arith) l)))
        ∙ ap (λ (u : List ℕ). is_named_at u off given) t
        ∙ ap (λ (n : ℕ). is_named_at (section_in other (name_table other)) n given) offset_same

  section_same : (i : ℕ) → FirstMatch file given i → header_section file (header_at file i) ≡ header_section other (header_at other i)
  unfolding header_section
  section_same i u =
      let t = field_same sh_type i (λ k h. alike.same_bytes k (in_type u h)) in
      let o = field_same sh_offset i (λ k h. alike.same_bytes k (in_offset u h)) in
      let s = field_same sh_size i (λ k h. alike.same_bytes k (in_size u h)) in
      let n = ends_same i i (section_end_tested u) o s in
      rw (t, n, o, s)

  module _ (tables : SectionTables file) (others : SectionTables other) where
    first_same : is_name given ≡ true → (n i : ℕ) → 1 ≤ i → i + n ≡ of_file file e_shnum → ((j : ℕ) → j < i → Matches file given j → ⊥) → first_named file given n i ≡ first_named other given n i
    unfolding first_named
    first_same u zero i h k b = refl
    first_same u (suc n) i h k b =
        let v : i < of_file file e_shnum = omega arith in
        let w = name_same tables others i (record { from = h; below = v; before = b }) in
        by_cases (has_name file given i)
        (λ e. rw (e, sym w ∙ e) (section_same i (record { match = test_match file given u i h v e; before = b })))
        (λ e. rw (e, sym w ∙ e) (first_same u n (i + 1) (omega arith) (omega arith) (none_before file given i b e)))

  find_same : find_section file given ≡ find_section other given
  find_same =
      by_cases (is_elf64 file) (λ a.
      let a₁ : is_elf64 other ≡ true = sym elf_same ∙ a in
      by_cases (has_tables file) (λ b.
      let b₁ : has_tables other ≡ true = sym tables_same ∙ b in
      let tables = tables_sound file b in
      by_cases (is_name given)
      (λ c. find_search file given a b c
      ∙ first_same tables (tables_sound other b₁) c (of_file file e_shnum - 1) 1 (omega arith) (omega (arith, tables.some)) (λ j h m. omega (arith, m.from))
      ∙ ap (λ (n : ℕ). first_named other given (n - 1) 1) e_num
      ∙ sym (find_search other given a₁ b₁ c))
      (λ c. find_20 file given a b c ∙ sym (find_20 other given a₁ b₁ c)))
      (λ b. find_19 file given a b ∙ sym (find_19 other given a₁ (sym tables_same ∙ b))))
      (λ a. find_18 file given a ∙ sym (find_18 other given (sym elf_same ∙ a)))

  part_of_same : (g : Outcome ℕ ℕ) → ExactFinding file given g → ExactFinding other given g → part_of other g ≡ part_of file g
  part_of_same (ok start end) e d =
      let (h, k) = found_lies file given start end e in
      let (m, n) = found_lies other given start end d in
      sym (part_same file other start (end - start) (omega arith) (omega arith) (λ at g. alike.same_bytes at (in_section e g.0 (omega arith))))
  part_of_same (refuse n p) e d = refl

pub same_finding : SameFinding
same_finding file other given alike =
    let e : find_section file given ≡ find_section other given = find_same file other given alike in
    let d : ExactFinding other given (find_section file given) = rw (← e) at (find_sound other given) in
    (sym e, rw (← e) (part_of_same file other given alike (find_section file given) (find_sound file given) d))
