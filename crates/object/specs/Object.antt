-- Shared objects: the reading of the section that a file has by a name, and its listing (docs/FORMAT.md, Shared objects).
use Rattle.std.specs.Prelude.{ℕ, cond, List, ◌≡◌, leb, length}
use Rattle.layout.specs.Reading.{Outcome, ok, refuse}
use Rattle.layout.specs.Answers.{Result, refusal}
use Rattle.place.specs.Place.{between}
use Rattle.elf.specs.Finding.{ExactFinding}
use Rattle.elf.specs.Find.{find_section}
use Rattle.section.specs.Section.{reading}
use Rattle.section.specs.Demand3.{Demand3}
use Rattle.listing.specs.Listing.{long_line, refusal_line, listing}

-- The reading of the part of a file that is found, with offsets from its start; or the refusal
abbrev pub found_reading : (file : List ℕ) → Outcome ℕ ℕ → (table : List ℕ) → Result
found_reading file (ok start end) table = reading (between file start end) table
found_reading file (refuse n p) table = refusal n p table

-- The reading of the section that a file has by a name, through a lent table
unfoldable pub object_reading : (file name table : List ℕ) → Result
object_reading file name table = found_reading file (find_section file name) table

-- The same by conditions: demand 3 of the part that is found; or the refusal, under its condition
pub data ExactObject (file name table : List ℕ) (r : Result) : Type 0 where
  of_part : {start end : ℕ} → ExactFinding file name (ok start end) → Demand3 (between file start end) table r → ExactObject file name table r
  of_refusal : {n p : ℕ} → ExactFinding file name (refuse n p) → r ≡ refusal n p table → ExactObject file name table r

-- The most bytes of a file whose section is listed
abbrev pub most_object : ℕ
most_object = 4194304

-- The listing of the part of a file that is found, or of the refusal
abbrev pub found_listing : (file : List ℕ) → Outcome ℕ ℕ → List ℕ
found_listing file (ok start end) = listing (between file start end)
found_listing file (refuse n p) = refusal_line n p

-- The listing of the section that a file has by a name
unfoldable pub object_listing : (file name : List ℕ) → List ℕ
object_listing file name = cond (leb (length file) most_object) (found_listing file (find_section file name)) long_line
