-- Writing a section of one or more entities from rows, as entries without sentinel or padding, with the refusals 14 to 17 in that
-- order (docs/FORMAT.md, Writing and Refusals).
use Rattle.std.specs.Prelude.{ℕ, zero, suc, cond, List, [], ◌∷◌, leb}
use Rattle.layout.specs.Layout.{Value}
use Rattle.layout.specs.Entities.{Entity}
use Rattle.layout.specs.Reading.{Outcome, ok, refuse, ◌>>=◌, walk}
use Rattle.layout.specs.Answers.{whole_rows}
use Rattle.writing.specs.Rows.{in_rows}
use Rattle.writing.specs.Writing.{wholly, measured_as, within}
use Rattle.section_writer.specs.Form.{section_bytes}

-- One entity or more, from row i on up to the last row; at most n of them
unfoldable pub entities_in : (rows text : List ℕ) → (n row : ℕ) → Outcome ℕ (List (Value Entity))
entities_in rows text zero i = refuse 14 0
entities_in rows text (suc n) i =
    walk (in_rows rows text) Entity i >>= λ v next.
    cond (leb (whole_rows rows) next) (ok (v ∷ []) next)
    (entities_in rows text n next >>= λ vs end. ok (v ∷ vs) end)

-- The entities that all the rows together spell. They are at most as many as the rows
unfoldable pub spelled_entities : (rows text : List ℕ) → Outcome ℕ (List (Value Entity))
spelled_entities rows text = wholly rows (entities_in rows text (whole_rows rows) 0)

-- Measuring a section
unfoldable pub measured_section : (rows text : List ℕ) → Outcome ℕ (List ℕ)
measured_section rows text = measured_as section_bytes rows text (spelled_entities rows text)

-- Writing it
unfoldable pub write_section : (rows text : List ℕ) → (size : ℕ) → Outcome ℕ (List ℕ)
write_section rows text size = within size (measured_section rows text)
