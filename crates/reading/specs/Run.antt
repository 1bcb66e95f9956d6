-- The effect of reading a layout on a cursor and its table, leaf by leaf.
use Rattle.std.specs.Prelude.{ℕ, List}
use Rattle.layout.specs.Layout.{refusal_of, Layout}
use Rattle.layout.specs.Reading.{read}
use Rattle.layout.specs.Machine.{Machine, verdict_on, drive}
use Rattle.reading.specs.State.{ReadState, read_state, refused_once, read_plain, read_text}

-- The reading of bytes that end where the payload ends. What is judged wrong is refused where it began
abbrev pub reader : List ℕ → Machine ReadState
reader s = record {
  plain_step = λ srt st. read_plain srt s st;
  text_step = λ st. read_text s st;
  value = λ st. st.cursor.value;
  halt = λ f begin st. read_state (refused_once (refusal_of f) begin.cursor.at st.cursor) st.table;
  verdict = λ A judge st. verdict_on judge (read A s st.cursor.at);
}

-- The reading of a layout. `RunRead` in Theorems.antt states it in terms of `read`
abbrev pub run : Layout → List ℕ → ReadState → ReadState
run L s st = drive (reader s) L st
