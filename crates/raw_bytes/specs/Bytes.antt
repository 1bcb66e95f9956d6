-- A number read from bytes, and bytes compared.
use Rattle.std.specs.Prelude.{ℕ, Bool, true, false, cond, ◌&&◌, List, [], ◌∷◌, eqb}
use Rattle.layout.specs.Reading.{enough, number_at}

-- The number whose four bytes begin at a place of s; 0 if fewer are left
unfoldable pub number_or0 : List ℕ → (place : ℕ) → ℕ
number_or0 s at = cond (enough s at 4) (number_at s at) 0

-- The same bytes
abbrev pub same : List ℕ → List ℕ → Bool
same [] [] = true
same [] (y ∷ ys) = false
same (x ∷ xs) [] = false
same (x ∷ xs) (y ∷ ys) = eqb x y && same xs ys
