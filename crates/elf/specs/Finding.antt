-- What is found for a file and a name, or why nothing is, each under its condition (docs/FORMAT.md, Shared objects). Nothing here
-- refers to a search.
use Rattle.std.specs.Prelude.{ℕ, ◌≤◌, List, ◌≡◌, length}
use Rattle.layout.specs.Reading.{Outcome, ok, refuse}
use Rattle.elf.specs.Elf.{sh_type, sh_offset, sht_nobits, of_header, section_end, Elf64, SectionTables, Matches, FirstMatch}

-- 18 comes first, then 19 for the two tables. Then the first header that has the name decides. A part is given by its start and
-- its end; the place of a refusal is 0
pub data ExactFinding (file name : List ℕ) : Outcome ℕ ℕ → Type 0 where
  -- 18: fewer than 64 bytes, other first bytes, another class or byte order, or another size of the section headers
  other_file : (Elf64 file → ⊥) → ExactFinding file name (refuse 18 0)
  -- 19: no section header, no such name table, or one of the two tables ends past the file
  no_tables : Elf64 file → (SectionTables file → ⊥) → ExactFinding file name (refuse 19 0)
  -- 20: no header has the name; none has one that is empty or holds a zero byte
  no_match : Elf64 file → SectionTables file → ((i : ℕ) → Matches file name i → ⊥) → ExactFinding file name (refuse 20 0)
  -- 20: the first that has it is of a section without bytes in the file
  no_bytes : Elf64 file → SectionTables file → {i : ℕ} → FirstMatch file name i → of_header file i sh_type ≡ sht_nobits
      → ExactFinding file name (refuse 20 0)
  -- 19: the section ends past the file
  past_end : Elf64 file → SectionTables file → {i : ℕ} → FirstMatch file name i → (of_header file i sh_type ≡ sht_nobits → ⊥)
      → (section_end file i ≤ length file → ⊥) → ExactFinding file name (refuse 19 0)
  -- the section
  found : Elf64 file → SectionTables file → {i : ℕ} → FirstMatch file name i → (of_header file i sh_type ≡ sht_nobits → ⊥)
      → section_end file i ≤ length file → ExactFinding file name (ok (of_header file i sh_offset) (section_end file i))
