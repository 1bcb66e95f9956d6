-- Writing from rows, with the refusals 14 to 17 in that order (docs/FORMAT.md, Writing and Refusals); and one value of a layout.
use Rattle.std.specs.Prelude.{ℕ, ◌*◌, cond, List, ◌++◌, eqb, leb, length, drop}
use Rattle.layout.specs.Layout.{Layout, Value}
use Rattle.layout.specs.Written.{bytes, row_width}
use Rattle.layout.specs.Reading.{Outcome, ok, refuse, ◌>>=◌, need, walk}
use Rattle.layout.specs.Answers.{limit, whole_rows}
use Rattle.table.specs.Answers.{Total, counted, uncounted}
use Rattle.writing.specs.Rows.{in_rows, good_rows}

-- 14, whatever the refusal was
abbrev pub fourteen : {A : Type 0} → Outcome ℕ A → Outcome ℕ A
fourteen (ok a end) = ok a end
fourteen (refuse n p) = refuse 14 0

-- 14: what was taken from the rows, if they end with it
unfoldable pub wholly : {A : Type 0} → (rows : List ℕ) → (taken : Outcome ℕ A) → Outcome ℕ A
wholly rows taken = fourteen (taken >>= λ v end. need (eqb (row_width * end) (length rows)) 14 0 (ok v end))

-- The value of a layout that all the rows together spell
unfoldable pub spelled : (L : Layout) → (rows text : List ℕ) → Outcome ℕ (Value L)
spelled L rows text = wholly rows (walk (in_rows rows text) L 0)

-- If the rows spell something: 15 for all texts; then 16; then the bytes to be written, and their length
unfoldable pub measured_as : {A : Type 0} → (bytes : A → List ℕ) → (rows text : List ℕ) → (spelled : Outcome ℕ A) → Outcome ℕ (List ℕ)
measured_as bytes rows text spelled =
    spelled >>= λ v end.
    need (good_rows rows text (whole_rows rows)) 15 0
    (need (leb (length (bytes v)) limit) 16 0
    (ok (bytes v) (length (bytes v))))

-- Then 17, for a destination of a given size
unfoldable pub within : (size : ℕ) → (measured : Outcome ℕ (List ℕ)) → Outcome ℕ (List ℕ)
within size measured = measured >>= λ b n. need (leb n size) 17 0 (ok b n)

-- Measuring one value of a layout
unfoldable pub measured : Layout → (rows text : List ℕ) → Outcome ℕ (List ℕ)
measured L rows text = measured_as (bytes L) rows text (spelled L rows text)

-- Writing it
unfoldable pub write : Layout → (rows text : List ℕ) → (size : ℕ) → Outcome ℕ (List ℕ)
write L rows text size = within size (measured L rows text)

-- 17, for a length alone
abbrev pub fitting : Total → (size : ℕ) → Total
fitting (counted n) size = cond (leb n size) (counted n) (uncounted 17 0)
fitting (uncounted n p) size = uncounted n p

-- The length, or the refusal
abbrev pub length_in : Outcome ℕ (List ℕ) → Total
length_in (ok b n) = counted n
length_in (refuse n p) = uncounted n p

-- The destination afterwards: the bytes, and after them what was there; unchanged after a refusal
abbrev pub written : Outcome ℕ (List ℕ) → List ℕ → List ℕ
written (ok b n) dest = b ++ drop n dest
written (refuse n p) dest = dest
