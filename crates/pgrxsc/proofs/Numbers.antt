-- What four numbers tell of a holder, a measuring, a writing, a path report and a kept name.
use Prim.Native.Nat.{ℕ, ◌+◌, ◌-◌}
use native.Mathlib.Omega.{arith}
use mathlib.Core.List.{List}
use mathlib.Core.Logic.{◌↔◌}
use mathlib.Core.Path.{◌≡◌, refl, sym, ap, subst, ◌∙◌}
use borrow.Author.Tests.{ne_eqb}
use Rattle.layout.specs.Reading.{Outcome, ok, refuse}
use Rattle.section.proofs.Demand3.{refusal_numbered}
use Rattle.table.specs.Answers.{Total, counted, uncounted}
use Rattle.directory.specs.Holder.{ByteHolder}
use Rattle.directory.specs.Exact.{ExactHolder, in_entry, in_none, not_read}
use Rattle.writing.specs.Refusals.{Form, WriteRefusal, not_spelled, bad_text, too_long, no_space}
use Rattle.table.specs.declared.Row.{Row}
use Rattle.parts.specs.Parts.{ExactKeptName}
use Rattle.parts.proofs.RowText.{row_numbered}
use Rattle.paths.specs.Repeats.{ExactReport}
use Rattle.packing.specs.Numbers.{holder_numbers, holder_told, part_numbers, part_told, length_numbers, total_told, length_told, report_numbers, pairs_in}

-- A refusal of a writing has another number than 0
writing_some : {F : Form} {rows text : List ℕ} {size n : ℕ} → WriteRefusal F rows text size n → n ≡ 0 → ⊥
writing_some (not_spelled h) z = omega arith
writing_some (bad_text v i s h k g) z = omega arith
writing_some (too_long v s g h) z = omega arith
writing_some (no_space v s g h k) z = omega arith

-- The numbers of a length, whose refusals are told by their number, tell that length
length_in_lem : (l : Total) → ((n p : ℕ) → l ≡ uncounted n p → n ≡ 0 → ⊥) → length_told (length_numbers l) ≡ l
length_in_lem (counted n) h = refl
length_in_lem (uncounted n p) h = rw (ne_eqb n 0 (h n p refl))

-- So what holds of the length of a measuring or of a writing, whose refusals are those of a writing, holds of what the numbers tell
pub length_told_lem : (P : Total → Type 0) {F : Form} {rows text : List ℕ} {size : ℕ} (numbers : List ℕ) (l : Total) → numbers ≡ length_numbers l
    → ((n p : ℕ) → (l ≡ uncounted n p) ↔ WriteRefusal F rows text size n × (p ≡ 0)) → P l → P (length_told numbers)
length_told_lem P numbers l e r x = subst P (sym (ap length_told e ∙ length_in_lem l λ n p q. writing_some ((r n p).0 q).0)) x

-- The pairs of a report and its numbers, whose refusals are told by their number, tell that report
report_in : (t : Total) → ((n p : ℕ) → t ≡ uncounted n p → n ≡ 0 → ⊥) → total_told (pairs_in t) (report_numbers t) ≡ t
report_in (counted n) h = refl
report_in (uncounted n p) h = rw (ne_eqb n 0 (h n p refl))

-- So its contract holds of what the pairs and the numbers tell
pub report_told : (s : List ℕ) (pairs : ℕ) (numbers : List ℕ) (t : Total) → pairs ≡ pairs_in t → numbers ≡ report_numbers t → ExactReport s t → ExactReport s (total_told pairs numbers)
report_told s pairs numbers t e q x =
    let some : (n p : ℕ) → t ≡ uncounted n p → n ≡ 0 → ⊥ = λ n p k z. omega (arith, z, refusal_numbered s n p ((x.refuses n p).0 k)) in
    rw (e, q, report_in t some) x

-- The numbers of a kept name tell it
kept_in : (s : List ℕ) (row : Row) (o : Outcome ℕ ℕ) → ExactKeptName s row o → part_told (part_numbers o) ≡ o
kept_in s row (ok start end) (e, h, k) =
    let q : start + (end - start) ≡ end = omega arith in
    ap (ok start) q
kept_in s row (refuse n p) e = rw (ne_eqb n 0 (row_numbered s row n p e))

-- So its contract holds of what the numbers tell
pub kept_told : (s : List ℕ) (row : Row) (numbers : List ℕ) (o : Outcome ℕ ℕ) → numbers ≡ part_numbers o → ExactKeptName s row o → ExactKeptName s row (part_told numbers)
kept_told s row numbers o e x = rw (e, kept_in s row o x) x

-- The numbers of what holds a byte tell it
holder_in_lem : {s : List ℕ} {position : ℕ} {h : ByteHolder} → ExactHolder s position h → holder_told (holder_numbers h) ≡ h
holder_in_lem (in_entry d g e c) = refl
holder_in_lem (in_none d g n) = refl
holder_in_lem {s} (not_read {n} {p} r) = rw (ne_eqb n 0 (λ z. omega (arith, z, refusal_numbered s n p r)))

-- So its contract holds of what the numbers tell
pub holder_told_lem : (s : List ℕ) (position : ℕ) (numbers : List ℕ) (h : ByteHolder) → numbers ≡ holder_numbers h → ExactHolder s position h → ExactHolder s position (holder_told numbers)
holder_told_lem s position numbers h e x = rw (e, holder_in_lem x) x
