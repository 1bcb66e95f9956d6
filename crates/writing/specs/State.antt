-- The state of a writing, and the effect of one row on it.
use Rattle.std.specs.Prelude.{ℕ, ◌+◌, Bool, true, false, cond, ◌&&◌, List, eqb, leb, length}
use Rattle.layout.specs.Layout.{Sort, plain, string}
use Rattle.layout.specs.Written.{leaf_bytes}
use Rattle.layout.specs.Reading.{Outcome, ok, refuse, utf8}
use Rattle.layout.specs.Answers.{limit}
use Rattle.writing.specs.Rows.{plain_in, text_in, stays_at}

-- The state of a writing: the next row; the length so far, which stops just above the limit; the value of the row before; 0, or 14
-- for a refused writing, which takes no more rows; and 1 if a text row was bad, else 0
pub record WriteState : Type 0 where
  pub row : ℕ
  pub pos : ℕ
  pub value : ℕ
  pub refusal : ℕ
  pub bad : ℕ

-- The writer at the start of a writing
abbrev pub new_writer : WriteState
new_writer = record { row = 0; pos = 0; value = 0; refusal = 0; bad = 0 }

-- The writer, refused
abbrev pub stopped_writer : WriteState → WriteState
stopped_writer w = record { row = w.row; pos = w.pos; value = w.value; refusal = 14; bad = w.bad }

-- The same, unless it is refused already
abbrev pub stopped_once : WriteState → WriteState
stopped_once w = cond (eqb w.refusal 0) (stopped_writer w) w

-- A length increased by some bytes; it stops just above the limit
abbrev pub grown : (pos size : ℕ) → ℕ
grown pos size = cond (leb (pos + size) limit) (pos + size) (limit + 1)

-- The writer after a row with a value, which takes `size` bytes
abbrev pub past : (value size : ℕ) → WriteState → WriteState
past n size w = record { row = w.row + 1; pos = grown w.pos size; value = n; refusal = w.refusal; bad = w.bad }

-- The writer after a bad text
abbrev pub spoiled : WriteState → WriteState
spoiled w = record { row = w.row + 1; pos = w.pos; value = w.value; refusal = w.refusal; bad = 1 }

-- The writer after the length of an entry, which no row gives
abbrev pub length_taken : WriteState → WriteState
length_taken w = record { row = w.row; pos = grown w.pos 4; value = w.value; refusal = w.refusal; bad = w.bad }

-- A row that holds a number, or 14
abbrev pub arrive_plain : Sort → Outcome ℕ ℕ → WriteState → WriteState
arrive_plain srt (ok n next) w = past n (length (leaf_bytes (plain srt n))) w
arrive_plain srt (refuse n p) w = stopped_writer w

-- A text that is good, or bad
abbrev pub past_text : (good : Bool) → List ℕ → WriteState → WriteState
past_text true t w = past (length t) (length (leaf_bytes (string t))) w
past_text false t w = spoiled w

-- A text row, or 14
abbrev pub arrive_text : (stays : Bool) → Outcome ℕ (List ℕ) → WriteState → WriteState
arrive_text stays (ok t next) w = past_text (stays && utf8 t) t w
arrive_text stays (refuse n p) w = stopped_writer w

-- A refused writer does not change
unfoldable pub unless_refused : (out w : WriteState) → WriteState
unless_refused out w = cond (eqb w.refusal 0) out w

-- Taking a row that holds a number
unfoldable pub consume_plain : Sort → (rows : List ℕ) → WriteState → WriteState
consume_plain srt rows w = unless_refused (arrive_plain srt (plain_in rows srt w.row) w) w

-- Taking a text row
unfoldable pub consume_text : (rows text : List ℕ) → WriteState → WriteState
consume_text rows text w = unless_refused (arrive_text (stays_at rows text w.row) (text_in rows text w.row) w) w
