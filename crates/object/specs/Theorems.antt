-- The theorems about the definitions, as statements. Each comment names the proof, in proofs/.
use Rattle.std.specs.Prelude.{ℕ, List, ◌≡◌}
use Rattle.layout.specs.Reading.{ok}
use Rattle.place.specs.Place.{between}
use Rattle.elf.specs.Finding.{ExactFinding}
use Rattle.elf.specs.Reads.{Alike}
use Rattle.section.specs.Section.{reading}
use Rattle.object.specs.Object.{object_reading}

-- What is read of a file is the reading of the section that is found in it: `object_part` in Object.antt
abbrev pub ObjectPart : Type 0
ObjectPart =
    (file name : List ℕ) (start end : ℕ) → ExactFinding file name (ok start end)
    → (table : List ℕ) → object_reading file name table ≡ reading (between file start end) table

-- Nothing else of a file can change its reading: a file that is like it in what leads to the section, and in the section, has the
-- same answer and table: `same_object` in Object.antt
abbrev pub SameObject : Type 0
SameObject =
    (file other name : List ℕ) → Alike file other name → (table : List ℕ) → object_reading other name table ≡ object_reading file name table
