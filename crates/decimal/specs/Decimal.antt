-- A number in base ten, as ASCII.
use Rattle.std.specs.Prelude.{ℕ, zero, suc, ◌+◌, ◌/◌, ◌%◌, cond, List, [], ◌∷◌, ◌++◌, ltb}

-- A number below ten, as ASCII
abbrev pub digit : ℕ → ℕ
digit d = 48 + d

-- The digits of n in at most the given number of steps: n itself if it is below ten; else the digits of n / 10, then its last
-- digit
abbrev pub digits_in : (steps n : ℕ) → List ℕ
digits_in zero n = []
digits_in (suc k) n = cond (ltb n 10) (digit n ∷ []) (digits_in k (n / 10) ++ (digit (n % 10) ∷ []))

-- The digits of n, for which n + 1 steps are enough: `DecimalStep` in Theorems.antt
unfoldable pub decimal : ℕ → List ℕ
decimal n = digits_in (suc n) n
