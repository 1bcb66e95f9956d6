-- A number and its four bytes.
use Prim.Native.Nat.{ℕ, ◌+◌, ◌*◌, ◌/◌, ◌%◌, ◌<◌}
use native.Mathlib.Nat.{div-div-eq-div-mul, div-add-mod}
use native.Mathlib.Omega.{arith}
use mathlib.Core.List.{[], ◌∷◌}
use mathlib.Core.Path.{◌≡◌}
use Rattle.layout.specs.Written.{four}

pub four_number : (a b c d : ℕ) → a < 256 → b < 256 → c < 256 → d < 256 → four (a + 256 * b + 65536 * c + 16777216 * d) ≡ a ∷ b ∷ c ∷ d ∷ []
four_number a b c d ha hb hc hd =
    let ea : (a + 256 * b + 65536 * c + 16777216 * d) % 256 ≡ a = omega arith in
    let qb : (a + 256 * b + 65536 * c + 16777216 * d) / 256 ≡ b + 256 * c + 65536 * d = omega arith in
    let qc : (a + 256 * b + 65536 * c + 16777216 * d) / 65536 ≡ c + 256 * d = omega arith in
    let qd : (a + 256 * b + 65536 * c + 16777216 * d) / 16777216 ≡ d = omega arith in
    let eb : (b + 256 * c + 65536 * d) % 256 ≡ b = omega arith in
    let ec : (c + 256 * d) % 256 ≡ c = omega arith in
    let ed : d % 256 ≡ d = omega arith in
    rw (ea, qb, qc, qd, eb, ec, ed)

pub number_four : (n : ℕ) → n < 4294967296 → n % 256 + 256 * (n / 256 % 256) + 65536 * (n / 65536 % 256) + 16777216 * (n / 16777216 % 256) ≡ n
number_four n h =
    let qc : n / 256 / 256 ≡ n / 65536 = div-div-eq-div-mul n 256 256 in
    let qd : n / 65536 / 256 ≡ n / 16777216 = div-div-eq-div-mul n 65536 256 in
    let small : n / 16777216 < 256 = omega arith in
    let ed : n / 16777216 % 256 ≡ n / 16777216 = omega arith in
    rw ed (omega (arith, div-add-mod n 256, div-add-mod (n / 256) 256, div-add-mod (n / 65536) 256))
