-- A refused cursor does not change.
use Prim.Native.Nat.{ℕ}
use mathlib.Core.List.{List}
use mathlib.Core.Path.{◌≡◌}
use borrow.Author.Tests.{ne_eqb}
use Rattle.layout.specs.Layout.{Layout, Sort, Verdict}
use Rattle.layout.specs.Machine.{pass}
use Rattle.layout.proofs.Forms.{Still, pass_still, drive_still, loop_still}
use Rattle.reading.specs.State.{ReadState, read_state, refused_once, guarded, read_plain, read_text}
use Rattle.reading.specs.Run.{reader, run}
use Rattle.reading.specs.Theorems.{RunRefused}

abbrev pub Refused : ReadState → Type 0
Refused st = st.cursor.refusal ≡ 0 → ⊥

-- Refused, unless it is refused already
abbrev pub halt : (number place : ℕ) → ReadState → ReadState
halt n p st = read_state (refused_once n p st.cursor) st.table

guarded_refused : (s : List ℕ) (out st : ReadState) → Refused st → guarded s out st ≡ st
unfolding guarded
guarded_refused s out st h = rw (ne_eqb _ _ h)

plain_refused : (srt : Sort) (s : List ℕ) (st : ReadState) → Refused st → read_plain srt s st ≡ st
unfolding read_plain
plain_refused srt s st h = guarded_refused s _ st h

text_refused : (s : List ℕ) (st : ReadState) → Refused st → read_text s st ≡ st
unfolding read_text
text_refused s st h = guarded_refused s _ st h

pub halt_refused : (n p : ℕ) (st : ReadState) → Refused st → halt n p st ≡ st
halt_refused n p st h = rw (ne_eqb _ _ h)

pub reader_still : (s : List ℕ) → Still (reader s) Refused
reader_still s = record { plainly = λ srt st h. plain_refused srt s st h; textly = text_refused s; halted = λ f begin st h. halt_refused _ _ st h }

pub run_refused : RunRefused
run_refused L s st h = drive_still (reader s) Refused (reader_still s) L st h

pub pass_refused : (s : List ℕ) (v : Verdict) (begin st : ReadState) → Refused st → pass (reader s) v begin st ≡ st
pass_refused s v begin st h = pass_still (reader s) Refused (reader_still s) v begin st h

-- So a loop whose result is w may end early, at a refused cursor
pub loop_refused : (L : Layout) (s : List ℕ) (w st : ReadState) → w ≡ run L s st → Refused st → st ≡ w
loop_refused L s w st e h = loop_still (reader s) Refused (reader_still s) L w st e h
