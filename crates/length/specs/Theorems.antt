-- The theorems about the definitions, as statements, for every layout. Each comment names the proof, in proofs/.
use Rattle.std.specs.Prelude.{ℕ, zero, suc, List, [], ◌∷◌, ◌≡◌, length}
use Rattle.std.proofs.Math.Option.{Option, none, some}
use Rattle.layout.specs.Layout.{Layout, Value}
use Rattle.layout.specs.Forms.{times, list, only_if, may}
use Rattle.layout.specs.Written.{bytes}
use Rattle.length.specs.Length.{option_length, list_length}

-- The length of the optional part, if it is present
abbrev pub inner : (L : Layout) (flag : ℕ) → Value (only_if L flag) → Option ℕ
inner L zero v = none
inner L (suc n) v = some (length (bytes L v))

-- The lengths of n items
abbrev pub item_lengths : (L : Layout) (n : ℕ) → Value (times n L) → List ℕ
item_lengths L zero v = []
item_lengths L (suc n) v = length (bytes L v.0) ∷ item_lengths L n v.1

-- A "may" takes as many bytes as `option_length` says: `option_length_lem` in Written.antt
abbrev pub OptionLength : Type 0
OptionLength = (L : Layout) (v : Value (may L)) → option_length (inner L v.0 v.2) ≡ length (bytes (may L) v)

-- A list takes as many bytes as `list_length` says: `list_length_lem` in Written.antt
abbrev pub ListLength : Type 0
ListLength = (L : Layout) (v : Value (list L)) → list_length (item_lengths L v.0 v.2) ≡ length (bytes (list L) v)
