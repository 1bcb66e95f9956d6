-- The result of the second pass over the rows of one value.
use Prim.Native.Nat.{ℕ}
use mathlib.Core.List.{List}
use mathlib.Core.Path.{◌≡◌}
use lib.ListN.{length}
use Rattle.layout.specs.Layout.{Layout, Value, leaves}
use Rattle.layout.proofs.Each.{each_of}
use Rattle.table.specs.Answers.{Total, counted}
use Rattle.writing.specs.Writing.{spelled, measured, write, fitting, length_in}
use Rattle.writing.specs.Refusals.{RowGives, Sized, alone, Spells}
use Rattle.writing.proofs.Along.{along_also}
use Rattle.writing.proofs.Spelled.{takes_alone}
use Rattle.writing.proofs.Exact.{proper_alone}
use Rattle.writing.proofs.Passes.{Encoded, bytes_passed}
use Rattle.storing.specs.Storing.{Gives, Stores}

-- Rows that spell a value give its leaves
spells_gives : (L : Layout) (rows text : List ℕ) (v : Value L) → Spells (alone L) rows text v → Gives rows text (leaves L v)
spells_gives L rows text v s = record { whole = s.whole; give = along_also (RowGives rows text) Sized 0 (leaves L v) s.give (each_of Sized L v s.allowed) }

pub second_pass : (L : Layout) (rows text dest : List ℕ) (m l : Total) (e : m ≡ length_in (measured L rows text)) (f : l ≡ fitting m (length dest))
    (n : ℕ) → l ≡ counted n → (after : List ℕ) → Stores rows text dest after → Encoded L rows text dest m l e f after
unfolding write measured spelled
second_pass L rows text dest m l e f n q after s =
    bytes_passed (alone L) rows text _ (takes_alone L rows text) (proper_alone L rows text) dest m l e f n q after
    (λ v w h. s (leaves L v) (spells_gives L rows text v w.spells) w.texts h)
