-- Shared objects: ELF files, 64-bit and little-endian. What leads to a section, by the ELF specification's names and offsets
-- (docs/FORMAT.md, Shared objects). A file is a list of bytes of any length, and a field is a natural number: no sum here wraps.
use Rattle.std.specs.Prelude.{ℕ, zero, suc, ◌+◌, ◌*◌, ◌≤◌, ◌<◌, List, [], ◌∷◌, ◌++◌, ◌≡◌, length, get_or, take, drop}
use Rattle.place.specs.Place.{between}

-- The number of so many bytes that begins at a place, its lowest byte first
unfoldable pub little : (size : ℕ) → List ℕ → (place : ℕ) → ℕ
little zero s at = 0
little (suc n) s at = get_or s at 0 + 256 * little n s (at + 1)

-- A field of a header: where it begins in the header, and how many bytes it has
pub record HeaderField : Type 0 where
  pub offset : ℕ
  pub size : ℕ

-- In the file header: where the section headers begin in the file
abbrev pub e_shoff : HeaderField
e_shoff = record { offset = 40; size = 8 }

-- The size of a section header
abbrev pub e_shentsize : HeaderField
e_shentsize = record { offset = 58; size = 2 }

-- How many section headers there are
abbrev pub e_shnum : HeaderField
e_shnum = record { offset = 60; size = 2 }

-- The index of the section name table
abbrev pub e_shstrndx : HeaderField
e_shstrndx = record { offset = 62; size = 2 }

-- In a section header: where the section's name begins in the section name table
abbrev pub sh_name : HeaderField
sh_name = record { offset = 0; size = 4 }

-- The section's type
abbrev pub sh_type : HeaderField
sh_type = record { offset = 4; size = 4 }

-- Where the section begins in the file
abbrev pub sh_offset : HeaderField
sh_offset = record { offset = 24; size = 8 }

-- Its size
abbrev pub sh_size : HeaderField
sh_size = record { offset = 32; size = 8 }

-- The size of the file header
abbrev pub ehsize : ℕ
ehsize = 64

-- The size of a section header
abbrev pub shentsize : ℕ
shentsize = 64

-- The first four bytes: 7F, E, L, F
abbrev pub elfmag : List ℕ
elfmag = 0x7F ∷ 0x45 ∷ 0x4C ∷ 0x46 ∷ []

-- Where the class of the file stands
abbrev pub ei_class : ℕ
ei_class = 4

-- The class of 64-bit files
abbrev pub elfclass64 : ℕ
elfclass64 = 2

-- Where the byte order stands
abbrev pub ei_data : ℕ
ei_data = 5

-- Little-endian
abbrev pub elfdata2lsb : ℕ
elfdata2lsb = 1

-- The type of a section that has no bytes in the file
abbrev pub sht_nobits : ℕ
sht_nobits = 8

-- The value of a field of the header that begins at a place
abbrev pub field_in : List ℕ → (header : ℕ) → HeaderField → ℕ
field_in file header f = little f.size file (header + f.offset)

-- The value of a field of the file header
abbrev pub of_file : List ℕ → HeaderField → ℕ
of_file file f = field_in file 0 f

-- Where section header i begins
abbrev pub header_at : List ℕ → (i : ℕ) → ℕ
header_at file i = of_file file e_shoff + shentsize * i

-- Where the section headers end
abbrev pub headers_end : List ℕ → ℕ
headers_end file = of_file file e_shoff + shentsize * of_file file e_shnum

-- The value of a field of section header i
abbrev pub of_header : List ℕ → (i : ℕ) → HeaderField → ℕ
of_header file i f = field_in file (header_at file i) f

-- Where section i ends
abbrev pub section_end : List ℕ → (i : ℕ) → ℕ
section_end file i = of_header file i sh_offset + of_header file i sh_size

-- The bytes of section i
abbrev pub section_in : List ℕ → (i : ℕ) → List ℕ
section_in file i = between file (of_header file i sh_offset) (section_end file i)

-- The index of the section name table
abbrev pub name_table : List ℕ → ℕ
name_table file = of_file file e_shstrndx

-- A file of the kind that is searched
pub record Elf64 (file : List ℕ) : Type 0 where
  pub long : ehsize ≤ length file
  pub magic : take 4 file ≡ elfmag
  pub class : get_or file ei_class 0 ≡ elfclass64
  pub order : get_or file ei_data 0 ≡ elfdata2lsb
  pub header_size : of_file file e_shentsize ≡ shentsize

-- It has section headers and a section name table, and both end within it
pub record SectionTables (file : List ℕ) : Type 0 where
  pub some : 1 ≤ of_file file e_shnum
  pub index : name_table file < of_file file e_shnum
  pub headers : headers_end file ≤ length file
  pub names : section_end file (name_table file) ≤ length file

-- A name that a section can have: it is not empty and holds no zero byte
pub record SectionName (name : List ℕ) : Type 0 where
  pub some : 1 ≤ length name
  pub no_zero : (i : ℕ) → i < length name → get_or name i 0 ≡ 0 → ⊥

-- The name stands in a table at an offset, and a zero byte of the table follows it
pub record NamedAt (table : List ℕ) (offset : ℕ) (name : List ℕ) : Type 0 where
  pub rest : List ℕ
  pub there : drop offset table ≡ name ++ (0 ∷ rest)

-- Section header i, from 1 on, has the name
pub record Matches (file name : List ℕ) (i : ℕ) : Type 0 where
  pub proper : SectionName name
  pub from : 1 ≤ i
  pub below : i < of_file file e_shnum
  pub named : NamedAt (section_in file (name_table file)) (of_header file i sh_name) name

-- It is the first that has
pub record FirstMatch (file name : List ℕ) (i : ℕ) : Type 0 where
  pub match : Matches file name i
  pub before : (j : ℕ) → j < i → Matches file name j → ⊥
