-- Texts added one after the other.
use Rattle.std.proofs.Common.{◌≡◌, ℕ, ◌^◌, ◌<◌, ◌++◌, arith, length-append, take}
use Rattle.std.proofs.lemmas.List.{take_all}
use Rattle.decimal.specs.Ascii.{ascii}
use Rattle.decimal.specs.Decimal.{decimal}
use Rattle.decimal.proofs.Numeral.{most_32}
use Rattle.numeric.specs.Numeric.{numeric_size}

-- There is room for both texts with a precision
pub precision_fits : (p : ℕ) → p < 2 ^ 32 → take numeric_size (ascii "NUMERIC(" ++ decimal p ++ ascii ")") ≡ ascii "NUMERIC(" ++ decimal p ++ ascii ")"
precision_fits p h = take_all numeric_size (ascii "NUMERIC(" ++ decimal p ++ ascii ")") (simp length-append (omega (arith, most_32 p h)))

pub both_fit : (p q : ℕ) → p < 2 ^ 32 → q < 2 ^ 32
    → take numeric_size (ascii "NUMERIC(" ++ decimal p ++ ascii ", " ++ decimal q ++ ascii ")") ≡ ascii "NUMERIC(" ++ decimal p ++ ascii ", " ++ decimal q ++ ascii ")"
both_fit p q h i = take_all numeric_size (ascii "NUMERIC(" ++ decimal p ++ ascii ", " ++ decimal q ++ ascii ")") (simp length-append (omega (arith, most_32 p h, most_32 q i)))
