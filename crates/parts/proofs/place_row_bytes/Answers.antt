-- Too many bytes, another sort, outside the bytes, or inside.
use Rattle.std.proofs.Common.{arith}
use Rattle.parts.proofs.RowText.{long, other_sort, outside, inside}
use Rattle.parts.proofs.place_row_bytes.Goals as goal
use Rattle.parts.proofs.place_row_bytes.Goals.{then-row-ne-SORT_TEXT-via-then-row-ne-SORT_TEXT, then-row-ne-SORT_TEXT-via-else-row-ne-SORT_TEXT+then-section-start, then-row-ne-SORT_TEXT-via-else-row-ne-SORT_TEXT+else-section-start+then-section-start-2}

pub returns-then-section-gt-LIMIT : goal.returns-then-section-gt-LIMIT
returns-then-section-gt-LIMIT c = rw c.no_part.ensures (long _ _ c.if-section-gt-LIMIT.true)

pub returns-then-row-ne-SORT_TEXT : goal.returns-then-row-ne-SORT_TEXT
returns-then-row-ne-SORT_TEXT c =
    let small = c.if-section-gt-LIMIT.false in
    rw c.no_part-then-row-ne-SORT_TEXT.ensures (elim c.then-row-ne-SORT_TEXT.branch [
      | then-row-ne-SORT_TEXT-via-then-row-ne-SORT_TEXT w ↦ other_sort _ _ small w.if-row-ne-SORT_TEXT.true
      | then-row-ne-SORT_TEXT-via-else-row-ne-SORT_TEXT+then-section-start w ↦ outside _ _ small w.if-row-ne-SORT_TEXT.false (omega arith)
      | then-row-ne-SORT_TEXT-via-else-row-ne-SORT_TEXT+else-section-start+then-section-start-2 w ↦ outside _ _ small w.if-row-ne-SORT_TEXT.false (omega arith)
    ])

pub returns : goal.returns
returns c = inside _ _ c.if-section-gt-LIMIT.false c.if-row-ne-SORT_TEXT.false (omega arith)
