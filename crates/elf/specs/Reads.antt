-- What of a file leads to a section: which of its bytes are looked at, and which ends are compared with its length.
use Rattle.std.specs.Prelude.{ℕ, ◌+◌, ◌≤◌, ◌<◌, List, ◌↔◌, ◌≡◌, length, get_or}
use Rattle.layout.specs.Reading.{ok}
use Rattle.elf.specs.Elf.{HeaderField, e_shoff, e_shentsize, e_shnum, e_shstrndx, sh_name, sh_type, sh_offset, sh_size, ehsize, of_file, header_at, headers_end, of_header, section_end, name_table, Matches, FirstMatch}
use Rattle.elf.specs.Finding.{ExactFinding}

-- A place from a start on, within so many bytes
abbrev pub Among : (start size : ℕ) → (place : ℕ) → Type 0
Among start size at = (start ≤ at) × (at < start + size)

-- A place in a field of the header that begins at another place
abbrev pub InField : (header : ℕ) → HeaderField → (place : ℕ) → Type 0
InField header f at = Among (header + f.offset) f.size at

-- The name of section header i is looked at: no header before it has the name
pub record LookedAt (file name : List ℕ) (i : ℕ) : Type 0 where
  pub from : 1 ≤ i
  pub below : i < of_file file e_shnum
  pub before : (j : ℕ) → j < i → Matches file name j → ⊥

-- The byte at a place leads to the section with a name, or is one of the section's
pub data Leads (file name : List ℕ) (at : ℕ) : Type 0 where
  -- the first four bytes, the class and the byte order
  in_ident : at < 6 → Leads file name at
  -- the four fields of the file header
  in_shoff : InField 0 e_shoff at → Leads file name at
  in_shentsize : InField 0 e_shentsize at → Leads file name at
  in_shnum : InField 0 e_shnum at → Leads file name at
  in_shstrndx : InField 0 e_shstrndx at → Leads file name at
  -- where the section name table begins, and its size
  in_names_offset : InField (header_at file (name_table file)) sh_offset at → Leads file name at
  in_names_size : InField (header_at file (name_table file)) sh_size at → Leads file name at
  -- of each header from 1 on, up to the first that has the name: where its name begins
  in_name_offset : {i : ℕ} → LookedAt file name i → InField (header_at file i) sh_name at → Leads file name at
  -- and, from there on in the section name table, as many bytes as the name has, and one more
  in_name : {i : ℕ} → LookedAt file name i
      → Among (of_header file (name_table file) sh_offset + of_header file i sh_name) (length name + 1) at
      → at < section_end file (name_table file) → Leads file name at
  -- of the first that has the name: the section's type, where it begins, and its size
  in_type : {i : ℕ} → FirstMatch file name i → InField (header_at file i) sh_type at → Leads file name at
  in_offset : {i : ℕ} → FirstMatch file name i → InField (header_at file i) sh_offset at → Leads file name at
  in_size : {i : ℕ} → FirstMatch file name i → InField (header_at file i) sh_size at → Leads file name at
  -- the section that is found
  in_section : {start end : ℕ} → ExactFinding file name (ok start end) → start ≤ at → at < end → Leads file name at

-- An end that is compared with the file's length
pub data EndTested (file name : List ℕ) : (end : ℕ) → Type 0 where
  file_header_end_tested : EndTested file name ehsize
  headers_end_tested : EndTested file name (headers_end file)
  names_end_tested : EndTested file name (section_end file (name_table file))
  section_end_tested : {i : ℕ} → FirstMatch file name i → EndTested file name (section_end file i)

-- Another file is like the first in what leads to the section, and in the section; a byte past a file's end counts as 0. Of the
-- length only this matters: each end that is compared with it is within both files or past both, as in files of one length
pub record Alike (file other name : List ℕ) : Type 0 where
  pub same_bytes : (at : ℕ) → Leads file name at → get_or file at 0 ≡ get_or other at 0
  pub same_ends : (end : ℕ) → EndTested file name end → (end ≤ length file) ↔ (end ≤ length other)
