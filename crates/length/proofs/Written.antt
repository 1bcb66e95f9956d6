-- The lengths of an optional part and of a list's items are those of their bytes.
use Prim.Native.Nat.{ℕ, zero, suc}
use native.Mathlib.Omega.{arith}
use mathlib.Core.List.{◌∷◌}
use mathlib.Core.Path.{◌≡◌, refl}
use lib.ListN.{length, length-append}
use Rattle.layout.specs.Layout.{Layout, Value, leaves}
use Rattle.layout.specs.Forms.{times, only_if}
use Rattle.layout.specs.Written.{bytes}
use Rattle.layout.proofs.InBytes.{bytes_of_append}
use Rattle.length.specs.Length.{sum, option_length, list_length}
use Rattle.length.specs.Theorems.{inner, item_lengths, OptionLength, ListLength}

-- The bytes of the items, together
items_sum : (L : Layout) (n : ℕ) (v : Value (times n L)) → sum (item_lengths L n v) ≡ length (bytes (times n L) v)
items_sum L zero v = refl
items_sum L (suc n) v = rw (bytes_of_append (leaves L v.0) (leaves (times n L) v.1)) (omega (arith, items_sum L n v.1, length-append (bytes L v.0) (bytes (times n L) v.1)))

pub option_length_lem : OptionLength
option_length_lem L v = go v.0 v.2
  where
    go : (n : ℕ) (w : Value (only_if L n)) → option_length (inner L n w) ≡ length (n ∷ bytes (only_if L n) w)
    go zero w = refl
    go (suc n) w = omega arith

pub list_length_lem : ListLength
unfolding list_length
list_length_lem L v = omega (arith, items_sum L v.0 v.2)
