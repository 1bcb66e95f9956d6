-- Pairs of equal texts of one kind. A mark is the kind and the place of a text in one number.
use Rattle.std.specs.Prelude.{ℕ, ◌+◌, ◌/◌, ◌%◌, cond, List, [], ◌∷◌, map, leb, length, take, drop}
use Rattle.layout.specs.Answers.{limit}
use Rattle.raw_bytes.specs.Bytes.{number_or0, same}

-- The text whose length stands at a place, as far as there are bytes
unfoldable pub text_from : List ℕ → (place : ℕ) → List ℕ
text_from s at = take (number_or0 s at) (drop (at + 4) s)

-- What a mark stands for: its kind, and then the bytes of the text whose length stands at its place
abbrev pub kind_and_text : List ℕ → (mark : ℕ) → List ℕ
kind_and_text s mark = mark % 256 ∷ text_from s (mark / 256)

-- What some marks stand for
abbrev pub kinds_and_texts : List ℕ → (marks : List ℕ) → List (List ℕ)
kinds_and_texts s marks = map (kind_and_text s) marks

-- How many of some lists are the same as t
abbrev pub equals : List ℕ → List (List ℕ) → ℕ
equals t [] = 0
equals t (u ∷ us) = cond (same t u) 1 0 + equals t us

-- The number of unordered pairs of lists that are the same: each with those after it
abbrev pub pairs : List (List ℕ) → ℕ
pairs [] = 0
pairs (t ∷ ts) = equals t ts + pairs ts

-- The number of pairs of marks with one kind and the same text, 0 if there are more marks than a section can have bytes
unfoldable pub equal_pairs : List ℕ → (marks : List ℕ) → ℕ
equal_pairs s marks = cond (leb (length marks) limit) (pairs (kinds_and_texts s marks)) 0
