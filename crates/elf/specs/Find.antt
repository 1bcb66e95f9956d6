-- The search for a section by its name, as a function (docs/FORMAT.md, Shared objects).
use Rattle.std.specs.Prelude.{ℕ, zero, suc, ◌+◌, ◌-◌, Bool, true, cond, not, ◌&&◌, List, [], ◌∷◌, ◌++◌, eqb, ltb, leb, length, get_or, take, drop}
use Rattle.layout.specs.Reading.{Outcome, ok, refuse, need}
use Rattle.raw_bytes.specs.Bytes.{same}
use Rattle.elf.specs.Elf.{e_shentsize, e_shnum, sh_name, sh_type, sh_offset, sh_size, ehsize, shentsize, elfmag, ei_class, elfclass64, ei_data, elfdata2lsb, sht_nobits, field_in, of_file, header_at, headers_end, of_header, section_in, name_table}

-- A file of the kind that is searched
unfoldable pub is_elf64 : List ℕ → Bool
is_elf64 file =
    leb ehsize (length file)
    && (same (take 4 file) elfmag
    && (eqb (get_or file ei_class 0) elfclass64
    && (eqb (get_or file ei_data 0) elfdata2lsb
    && eqb (of_file file e_shentsize) shentsize)))

-- Where the section ends whose header begins at a place
abbrev pub end_by : List ℕ → (header : ℕ) → ℕ
end_by file header = field_in file header sh_offset + field_in file header sh_size

-- It ends within the file
unfoldable pub ends_in_file : List ℕ → (header : ℕ) → Bool
ends_in_file file header = leb (end_by file header) (length file)

-- There are section headers and a section name table, and both end within the file
unfoldable pub has_tables : List ℕ → Bool
has_tables file =
    leb 1 (of_file file e_shnum)
    && (ltb (name_table file) (of_file file e_shnum)
    && (leb (headers_end file) (length file)
    && ends_in_file file (header_at file (name_table file))))

-- No byte is zero
abbrev pub no_zero : List ℕ → Bool
no_zero [] = true
no_zero (b ∷ s) = not (eqb b 0) && no_zero s

-- A name that a section can have
unfoldable pub is_name : List ℕ → Bool
is_name name = leb 1 (length name) && no_zero name

-- The name stands in a table at an offset, and a zero byte of the table follows it
unfoldable pub is_named_at : List ℕ → (offset : ℕ) → List ℕ → Bool
is_named_at table offset name = same (take (suc (length name)) (drop offset table)) (name ++ (0 ∷ []))

-- The section whose header begins at a place: 20, if it has no bytes in the file; 19, if it ends past the file
unfoldable pub header_section : List ℕ → (header : ℕ) → Outcome ℕ ℕ
header_section file header =
    need (not (eqb (field_in file header sh_type) sht_nobits)) 20 0
    (need (ends_in_file file header) 19 0
    (ok (field_in file header sh_offset) (end_by file header)))

-- The first of the next n headers that has the name, from header i on; 20, if none has
unfoldable pub first_named : List ℕ → List ℕ → (n i : ℕ) → Outcome ℕ ℕ
first_named file name zero i = refuse 20 0
first_named file name (suc n) i =
    cond (is_named_at (section_in file (name_table file)) (of_header file i sh_name) name)
    (header_section file (header_at file i))
    (first_named file name n (i + 1))

-- The section of a file with a name: 18; then 19; then 20 for the name; then the search, from header 1 on
unfoldable pub find_section : (file name : List ℕ) → Outcome ℕ ℕ
find_section file name =
    need (is_elf64 file) 18 0
    (need (has_tables file) 19 0
    (need (is_name name) 20 0
    (first_named file name (of_file file e_shnum - 1) 1)))
