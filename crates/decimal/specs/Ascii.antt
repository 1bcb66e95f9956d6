-- ASCII texts as their bytes.
use Prim.Native.Char.{code}
use Rattle.std.specs.Prelude.{ℕ, List, [], ◌∷◌}
use Prim.Native.String.{String, [] as nothing, ◌∷◌ as ◌then◌}

-- The bytes of an ASCII text: one for each character
abbrev pub ascii : String → List ℕ
ascii nothing = []
ascii (c then text) = code c ∷ ascii text
