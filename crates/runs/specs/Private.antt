-- What only the private functions of the crate promise one another. No public contract cites anything here.
use Rattle.std.specs.Prelude.{ℕ, List, [], ◌∷◌, length}
use Rattle.std.specs.declared.cmp.Ordering.{Ordering}
use Rattle.std.specs.Ordering.{nat_cmp}
use Rattle.std.specs.Cmp.Lexicographic.{slice_cmp}

-- What lists that begin with a kind are ordered by: the kind, the length of the text after it, and its bytes
abbrev pub ranked : List ℕ → List ℕ
ranked [] = []
ranked (kind ∷ text) = kind ∷ length text ∷ text

-- The order of two kinds with a text each, by the kinds and then by the texts
unfoldable pub kind_order : List ℕ → List ℕ → Ordering
kind_order a b = slice_cmp nat_cmp (ranked a) (ranked b)
