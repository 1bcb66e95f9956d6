-- Leaves, their bytes and their rows.
use Prim.Native.Nat.{ℕ, ◌+◌}
use native.Mathlib.Nat.{add-zero, add_assoc}
use native.Mathlib.Omega.{arith}
use mathlib.Core.List.{List, [], ◌∷◌, ◌++◌, append_assoc}
use mathlib.Core.Path.{refl, ap}
use lib.ListN.{length, length-append}
use Rattle.layout.specs.Layout.{Kind, Tag, Flag, Number, Count, plain, string}
use Rattle.layout.specs.Written.{leaf_bytes, bytes_of, row_at}
use Rattle.layout.specs.Theorems.{LeafByte, LeavesBytes, RowsLength, RowsAppend}

pub leaf_byte : LeafByte
leaf_byte (plain Kind n) = omega arith
leaf_byte (plain Tag n) = omega arith
leaf_byte (plain Flag n) = omega arith
leaf_byte (plain Number n) = omega arith
leaf_byte (plain Count n) = omega arith
leaf_byte (string t) = omega arith

pub leaves_bytes : LeavesBytes
leaves_bytes [] = omega arith
leaves_bytes (x ∷ ls) = omega (arith, leaf_byte x, leaves_bytes ls, length-append (leaf_bytes x) (bytes_of ls))

pub rows_length : RowsLength
rows_length at [] = refl
rows_length at (plain srt n ∷ ls) = omega (arith, rows_length (at + length (leaf_bytes (plain srt n))) ls)
rows_length at (string t ∷ ls) = omega (arith, rows_length (at + length (leaf_bytes (string t))) ls)

pub rows_append : RowsAppend
rows_append at [] b = rw add-zero
rows_append at (x ∷ a) b =
    rw (length-append (leaf_bytes x) (bytes_of a), ← add_assoc at (length (leaf_bytes x)) (length (bytes_of a)), append_assoc (row_at at x))
    (ap (λ (l : List ℕ). row_at at x ++ l) (rows_append (at + length (leaf_bytes x)) a b))
