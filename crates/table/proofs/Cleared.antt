-- A table that is cleared.
use Prim.Native.Nat.{ℕ, ◌-◌, ◌≤◌}
use native.Mathlib.Nat.{sub-zero}
use native.Mathlib.Omega.{arith}
use mathlib.Core.List.{List, ◌++◌, append-nil}
use mathlib.Core.Path.{◌≡◌, ap}
use lib.ListN.{length, take, drop, length-drop, drop_of_length-le, replicate}
use lib.Seq.{take_all}
use borrow.Rule.Slice.PartMut.{put_mid}
use Rattle.table.specs.Table.{cleared}

-- The part from an index on, all 0
pub cleared_part : (t : List ℕ) (i : ℕ) (zeros : List ℕ) → zeros ≡ replicate (length (take (length t - i) (drop i t))) 0 → put_mid i (length t - i) t zeros ≡ cleared t i
unfolding cleared
cleared_part t i zeros e =
    let whole : length (drop i t) ≤ length t - i = omega (arith, length-drop i t) in
    rw (e, take_all (length t - i) (drop i t) whole, length-drop i t, drop_of_length-le (drop i t) whole) (ap (λ z. take i t ++ z) (append-nil _))

pub cleared_end : (t : List ℕ) (i : ℕ) → length t ≤ i → cleared t i ≡ t
unfolding cleared
cleared_end t i h =
    let a : length t - i ≡ 0 = omega arith in
    rw (a, take_all i t h) (append-nil t)

pub cleared_all : (t : List ℕ) → cleared t 0 ≡ replicate (length t) 0
unfolding cleared
cleared_all t = rw sub-zero
