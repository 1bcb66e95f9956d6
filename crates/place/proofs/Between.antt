-- The length of a part of which all is in the bytes.
use Prim.Native.Nat.{ℕ, ◌-◌, ◌≤◌}
use native.Mathlib.Omega.{arith}
use mathlib.Core.List.{List}
use mathlib.Core.Path.{◌≡◌}
use lib.ListN.{length, drop, length-drop}
use lib.Seq.{length-take-le}
use Rattle.place.specs.Place.{between}

pub length_between : (s : List ℕ) (start end : ℕ) → start ≤ end → end ≤ length s → length (between s start end) ≡ end - start
length_between s start end h k = length-take-le (end - start) (drop start s) (omega (arith, length-drop start s))
