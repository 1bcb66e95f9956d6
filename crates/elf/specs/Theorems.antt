-- The theorems about the definitions, as statements. Each comment names the proof, in proofs/.
use Rattle.std.specs.Prelude.{ℕ, ◌≤◌, List, ◌↔◌, ◌≡◌, length}
use Rattle.layout.specs.Reading.{Outcome, ok}
use Rattle.place.specs.Place.{part_of}
use Rattle.elf.specs.Finding.{ExactFinding}
use Rattle.elf.specs.Find.{find_section}
use Rattle.elf.specs.Reads.{Alike}

-- Exactly one outcome holds of every file and name, and it is the one that the search gives: `finding_exact` in Exact.antt
abbrev pub FindingExact : Type 0
FindingExact = (file name : List ℕ) (a : Outcome ℕ ℕ) → (find_section file name ≡ a) ↔ ExactFinding file name a

-- A section that is found lies in the file: `found_lies` in Exact.antt
abbrev pub FoundLies : Type 0
FoundLies =
    (file name : List ℕ) (start end : ℕ) → ExactFinding file name (ok start end) → (start ≤ end) × (end ≤ length file)

-- Nothing else of a file can change what is found: a file that is like it in what leads to the section, and in the section, gives
-- the same outcome and the same bytes: `same_finding` in Same.antt
abbrev pub SameFinding : Type 0
SameFinding =
    (file other name : List ℕ) → Alike file other name
    → (find_section other name ≡ find_section file name)
    × (part_of other (find_section other name) ≡ part_of file (find_section file name))
