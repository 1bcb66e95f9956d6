-- What the rows of a layout make of a writer, one after the other; and the end of a writing.
use Rattle.std.specs.Prelude.{ℕ, ◌*◌, cond, ◌&&◌, List, eqb, leb, length}
use Rattle.layout.specs.Layout.{Layout}
use Rattle.layout.specs.Written.{row_width}
use Rattle.layout.specs.Reading.{leaves_at}
use Rattle.layout.specs.Machine.{Machine, verdict_on, drive}
use Rattle.layout.specs.Answers.{limit}
use Rattle.table.specs.Answers.{Total, counted, uncounted}
use Rattle.writing.specs.Rows.{in_rows}
use Rattle.writing.specs.State.{stopped_once, consume_plain, consume_text}
use Rattle.writing.specs.State.{WriteState}

-- The writing from rows and lent text bytes
abbrev pub writer : (rows text : List ℕ) → Machine WriteState
writer rows text = record {
  plain_step = λ srt w. consume_plain srt rows w;
  text_step = λ w. consume_text rows text w;
  value = λ w. w.value;
  halt = λ f begin w. stopped_once w;
  verdict = λ A judge w. verdict_on judge (leaves_at (in_rows rows text) A w.row);
}

-- The rows of a layout
abbrev pub consume : Layout → (rows text : List ℕ) → WriteState → WriteState
consume L rows text w = drive (writer rows text) L w

-- 14, if a row was refused or some are left; 15; 16; or the length
unfoldable pub closing : (rows : List ℕ) → WriteState → Total
closing rows w =
    cond (eqb w.refusal 0 && eqb (row_width * w.row) (length rows))
    (cond (eqb w.bad 0) (cond (leb w.pos limit) (counted w.pos) (uncounted 16 0))
    (uncounted 15 0))
    (uncounted 14 0)
