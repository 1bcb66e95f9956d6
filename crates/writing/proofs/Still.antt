-- A refused writer does not change, and any other continues.
use Prim.Native.Nat.{ℕ}
use mathlib.Core.List.{List}
use mathlib.Core.Path.{◌≡◌}
use borrow.Author.Tests.{eq-eqb, ne_eqb}
use Rattle.layout.specs.Layout.{Layout, Sort}
use Rattle.layout.proofs.Forms.{Still, drive_still}
use Rattle.writing.specs.State.{WriteState}
use Rattle.writing.specs.State.{stopped_once, unless_refused, consume_plain, consume_text}
use Rattle.writing.specs.Run.{writer, consume}

abbrev pub Refused : WriteState → Type 0
Refused w = w.refusal ≡ 0 → ⊥

pub unless_refused_lem : (out w : WriteState) → Refused w → unless_refused out w ≡ w
unfolding unless_refused
unless_refused_lem out w h = rw (ne_eqb _ _ h)

pub goes_on : (out w : WriteState) → w.refusal ≡ 0 → unless_refused out w ≡ out
unfolding unless_refused
goes_on out w z = rw (eq-eqb w.refusal 0 z)

plain_refused : (srt : Sort) (rows : List ℕ) (w : WriteState) → Refused w → consume_plain srt rows w ≡ w
unfolding consume_plain
plain_refused srt rows w h = unless_refused_lem _ w h

text_refused : (rows text : List ℕ) (w : WriteState) → Refused w → consume_text rows text w ≡ w
unfolding consume_text
text_refused rows text w h = unless_refused_lem _ w h

pub halt_refused : (w : WriteState) → Refused w → stopped_once w ≡ w
halt_refused w h = rw (ne_eqb _ _ h)

pub writer_still : (rows text : List ℕ) → Still (writer rows text) Refused
writer_still rows text = record { plainly = λ srt w h. plain_refused srt rows w h; textly = text_refused rows text; halted = λ f begin w h. halt_refused w h }

pub run_refused : (L : Layout) (rows text : List ℕ) (w : WriteState) → Refused w → consume L rows text w ≡ w
run_refused L rows text w h = drive_still (writer rows text) Refused (writer_still rows text) L w h
