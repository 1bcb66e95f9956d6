-- The theorems about the digits, as statements. Each comment names the proof, in proofs/Numeral.antt.
use Rattle.std.specs.Prelude.{ℕ, ◌/◌, ◌%◌, ◌^◌, ◌≤◌, ◌<◌, cond, [], ◌∷◌, ◌++◌, ◌≡◌, ltb, length}
use Rattle.decimal.specs.Decimal.{digit, decimal}

-- A number below ten is its own digit; any other has the digits of its tenth, then its last digit: `decimal_step`
abbrev pub DecimalStep : Type 0
DecimalStep = (n : ℕ) → decimal n ≡ cond (ltb n 10) (digit n ∷ []) (decimal (n / 10) ++ (digit (n % 10) ∷ []))

-- There is at least one digit: `decimal_some`
abbrev pub DecimalSome : Type 0
DecimalSome = (n : ℕ) → 1 ≤ length (decimal n)

-- A number below the k-th power of ten has at most k digits, if k is not 0: `decimal_most`
abbrev pub DecimalMost : Type 0
DecimalMost = (k n : ℕ) → 1 ≤ k → n < 10 ^ k → length (decimal n) ≤ k
