-- What is proved of readings and parts together. Each comment names the proof, in proofs/.
use Rattle.std.specs.Prelude.{ℕ, ◌+◌, List, [], ◌∷◌, ◌++◌, ◌≡◌, length}
use Rattle.layout.specs.Layout.{Leaf, string}
use Rattle.layout.specs.Written.{bytes_of, row_at}
use Rattle.table.specs.declared.Row.{Row}
use Rattle.section.specs.Derivation.{Placed, Derivation, entities_of}
use Rattle.section.specs.Demand3.{Good}
use Rattle.place.specs.Place.{part_of}
use Rattle.parts.specs.Parts.{row_text, kept_name, kept_name_in}

-- The row of each text of a section that is derived gives that text: `text_found` in Texts.antt.
-- `ls` are the leaves before the text in its entity, so that its row is the one that `rows_from` has for it
abbrev pub TextFound : Type 0
TextFound =
    (s : List ℕ) (d : Derivation) → Good s d → (before after : List Placed) (e : Placed) → entities_of d ≡ before ++ (e ∷ after)
    → (ls ms : List Leaf) (t : List ℕ) → e.content ≡ ls ++ (string t ∷ ms)
    → (row : Row) → row.sort ∷ row.offset ∷ row.value ∷ [] ≡ row_at (e.at + length (bytes_of ls)) (string t)
    → part_of s (row_text s row) ≡ t

-- And its kept name: `kept_found` in Texts.antt
abbrev pub KeptFound : Type 0
KeptFound =
    (s : List ℕ) (d : Derivation) → Good s d → (before after : List Placed) (e : Placed) → entities_of d ≡ before ++ (e ∷ after)
    → (ls ms : List Leaf) (t : List ℕ) → e.content ≡ ls ++ (string t ∷ ms)
    → (row : Row) → row.sort ∷ row.offset ∷ row.value ∷ [] ≡ row_at (e.at + length (bytes_of ls)) (string t)
    → part_of s (kept_name_in s (row_text s row)) ≡ kept_name t
