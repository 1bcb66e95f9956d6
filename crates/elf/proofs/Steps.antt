-- The tests of a search, by what each finds.
use Prim.Native.Nat.{ℕ, suc, ◌+◌, ◌*◌, ◌-◌, ◌≤◌, ◌<◌}
use native.Mathlib.Nat.{add-zero}
use native.Mathlib.Omega.{arith}
use mathlib.Core.Bool.{Bool, true, false, and-eq-true_iff}
use mathlib.Core.List.{List}
use mathlib.Core.Path.{◌≡◌, ◌∙◌}
use lib.Dec.{eqb}
use lib.ListN.{length, get_or, take}
use borrow.Author.Tests.{leb-true, ltb-true, eq-eqb, ne_eqb, le-leb, lt-ltb}
use Rattle.layout.specs.Reading.{ok, refuse}
use Rattle.raw_bytes.specs.Bytes.{same}
use Rattle.elf.specs.Elf.{little, e_shoff, e_shentsize, e_shnum, sh_name, sh_type, sh_offset, elfmag, field_in, of_file, header_at, headers_end, of_header, section_in, name_table, SectionTables}
use Rattle.elf.specs.Find.{is_elf64, end_by, ends_in_file, has_tables, is_name, is_named_at, header_section, first_named, find_section}

-- The kind of a file
module _ (file : List ℕ) where
  pub elf_size : 64 ≤ length file → same (take 4 file) elfmag ≡ true → get_or file 4 0 ≡ 2 → get_or file 5 0 ≡ 1 → is_elf64 file ≡ eqb (of_file file e_shentsize) 64
  unfolding is_elf64
  elf_size h m c e = rw (le-leb 64 (length file) h, m, eq-eqb (get_or file 4 0) 2 c, eq-eqb (get_or file 5 0) 1 e)

  pub elf_long : is_elf64 file ≡ true → 64 ≤ length file
  unfolding is_elf64
  elf_long e = leb-true 64 (length file) ((and-eq-true_iff _ _).0 e).0

-- The end of a section
module _ (file : List ℕ) (header : ℕ) where
  pub ends_in : end_by file header ≤ length file → ends_in_file file header ≡ true
  unfolding ends_in_file
  ends_in h = le-leb _ _ h

  pub ends_so : ends_in_file file header ≡ true → end_by file header ≤ length file
  unfolding ends_in_file
  ends_so e = leb-true _ _ e

-- The tables
module _ (file : List ℕ) where
  pub tables_sound : has_tables file ≡ true → SectionTables file
  unfolding has_tables
  tables_sound e =
      let (a, e₁) = (and-eq-true_iff _ _).0 e in
      let (b, e₂) = (and-eq-true_iff _ _).0 e₁ in
      let (c, d) = (and-eq-true_iff _ _).0 e₂ in
      record { some = leb-true _ _ a; index = ltb-true _ _ b; headers = leb-true _ _ c; names = ends_so file (header_at file (name_table file)) d }

  pub tables_complete : SectionTables file → has_tables file ≡ true
  unfolding has_tables
  tables_complete h =
      let n = ends_in file (header_at file (name_table file)) h.names in
      rw (le-leb 1 (of_file file e_shnum) h.some, lt-ltb (name_table file) (of_file file e_shnum) h.index, le-leb (headers_end file) (length file) h.headers, n)

-- A section
module _ (file : List ℕ) (header : ℕ) where
  pub section_nobits : field_in file header sh_type ≡ 8 → header_section file header ≡ refuse 20 0
  unfolding header_section
  section_nobits e = rw (eq-eqb (field_in file header sh_type) 8 e)

  module _ (t : field_in file header sh_type ≡ 8 → ⊥) where
    pub section_past : ends_in_file file header ≡ false → header_section file header ≡ refuse 19 0
    unfolding header_section
    section_past e = rw (ne_eqb (field_in file header sh_type) 8 t, e)

    pub section_there : ends_in_file file header ≡ true → header_section file header ≡ ok (field_in file header sh_offset) (end_by file header)
    unfolding header_section
    section_there e = rw (ne_eqb (field_in file header sh_type) 8 t, e)

-- The search
module _ (file name : List ℕ) where
  -- Whether header i has the name
  abbrev pub has_name : ℕ → Bool
  has_name i = is_named_at (section_in file (name_table file)) (of_header file i sh_name) name

  pub search_end : (n i : ℕ) → n ≡ 0 → first_named file name n i ≡ refuse 20 0
  unfolding first_named
  search_end n i e = rw e

  module _ (n i : ℕ) (h : i < n) where
    step : n - i ≡ suc (n - (i + 1))
    step = omega arith

    pub search_here : has_name i ≡ true → first_named file name (n - i) i ≡ header_section file (header_at file i)
    unfolding first_named
    search_here e = rw (step, e)

    pub search_on : has_name i ≡ false → first_named file name (n - i) i ≡ first_named file name (n - (i + 1)) (i + 1)
    unfolding first_named
    search_on e = rw (step, e)

  -- A test with the table and the offset in hand
  pub named_in : (table : List ℕ) (headers i offset : ℕ) (b : Bool) → table ≡ section_in file (name_table file) → headers ≡ of_file file e_shoff
      → offset ≡ little 4 file (headers + 64 * i) → b ≡ is_named_at table offset name → b ≡ has_name i
  named_in table headers i offset b t h o e = e ∙ rw (t, o, h, add-zero)

-- The whole
module _ (file name : List ℕ) where
  pub find_18 : is_elf64 file ≡ false → find_section file name ≡ refuse 18 0
  unfolding find_section
  find_18 e = rw e

  module _ (h : is_elf64 file ≡ true) where
    pub find_19 : has_tables file ≡ false → find_section file name ≡ refuse 19 0
    unfolding find_section
    find_19 e = rw (h, e)

    module _ (k : has_tables file ≡ true) where
      pub find_20 : is_name name ≡ false → find_section file name ≡ refuse 20 0
      unfolding find_section
      find_20 e = rw (h, k, e)

      pub find_search : is_name name ≡ true → find_section file name ≡ first_named file name (of_file file e_shnum - 1) 1
      unfolding find_section
      find_search e = rw (h, k, e)
