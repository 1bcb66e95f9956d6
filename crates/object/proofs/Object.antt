-- The reading and the listing of the part that is found.
use Prim.Native.Nat.{ℕ, ◌≤◌, ◌<◌}
use mathlib.Core.List.{List}
use mathlib.Core.Path.{◌≡◌, refl, ap, ◌∙◌}
use lib.ListN.{length}
use borrow.Author.Tests.{le-leb, lt-leb}
use Rattle.layout.specs.Reading.{Outcome, ok, refuse}
use Rattle.layout.specs.Answers.{Result, refusal}
use Rattle.place.specs.Place.{between, part_of}
use Rattle.elf.specs.Finding.{ExactFinding}
use Rattle.elf.specs.Find.{find_section}
use Rattle.elf.proofs.Exact.{finding_exact}
use Rattle.elf.proofs.Same.{same_finding}
use Rattle.section.specs.Section.{reading}
use Rattle.section.specs.Demand3.{Demand3}
use Rattle.listing.specs.Listing.{long_line, refusal_line, listing}
use Rattle.object.specs.Object.{found_reading, object_reading, ExactObject, of_part, of_refusal, most_object, found_listing, object_listing}
use Rattle.object.specs.Theorems.{ObjectPart, SameObject}

-- What was found in a file by a name
module _ (file name : List ℕ) where
  -- A refusal
  module _ (n p : ℕ) (f : refuse n p ≡ find_section file name) where
    pub refusal_read : (table : List ℕ) (r : Result) → ExactFinding file name (refuse n p) → r ≡ refusal n p table → (r ≡ object_reading file name table) × ExactObject file name table r
    unfolding object_reading
    refusal_read table r x k = (k ∙ ap (λ (o : Outcome ℕ ℕ). found_reading file o table) f, of_refusal x k)

    pub refusal_listed : length file ≤ most_object → refusal_line n p ≡ object_listing file name
    unfolding object_listing
    refusal_listed h = rw (le-leb (length file) most_object h) (ap (found_listing file) f)

  -- A part
  module _ (start end : ℕ) (f : ok start end ≡ find_section file name) (s : List ℕ) (b : s ≡ between file start end) where
    pub part_read : (table : List ℕ) (r : Result) → ExactFinding file name (ok start end) → (r ≡ reading s table) × Demand3 s table r
        → (r ≡ object_reading file name table) × ExactObject file name table r
    unfolding object_reading
    part_read table r x d =
        let h = rw b at d in
        (h.0 ∙ ap (λ (o : Outcome ℕ ℕ). found_reading file o table) f, of_part x h.1)

    pub part_listed : length file ≤ most_object → listing s ≡ object_listing file name
    unfolding object_listing
    part_listed h = rw (b, le-leb (length file) most_object h) (ap (found_listing file) f)

pub list_too_long : (file name : List ℕ) → most_object < length file → long_line ≡ object_listing file name
unfolding object_listing
list_too_long file name h = rw (lt-leb (length file) most_object h)

pub object_part : ObjectPart
unfolding object_reading
object_part file name start end f table = rw ((finding_exact file name (ok start end)).1 f)

-- The bytes that are read decide the reading
part_reading : (file other table : List ℕ) (o : Outcome ℕ ℕ) → part_of other o ≡ part_of file o → found_reading other o table ≡ found_reading file o table
part_reading file other table (ok start end) e = ap (λ (s : List ℕ). reading s table) e
part_reading file other table (refuse n p) e = refl

pub same_object : SameObject
unfolding object_reading
same_object file other name alike table =
    let (e, k) = same_finding file other name alike in
    ap (λ (o : Outcome ℕ ℕ). found_reading other o table) e ∙ part_reading file other table (find_section file name) (rw e at k)
