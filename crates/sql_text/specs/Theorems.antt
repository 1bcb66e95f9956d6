-- The theorems about the definitions, as statements. Each comment names the proof, in proofs/.
use Rattle.std.specs.Prelude.{ℕ, ◌≤◌, List, [], ◌∷◌, ◌≡◌, length}
use Rattle.layout.specs.Layout.{Tag, plain, string}
use Rattle.layout.specs.Entities.{SqlMapping}
use Rattle.layout.specs.Reading.{ok, read}
use Rattle.layout.specs.Answers.{limit}
use Rattle.layout.specs.Theorems.{Bytes}
use Rattle.numeric.specs.Numeric.{numeric_size}
use Rattle.sql_text.specs.SqlText.{in_buffer, sql_text, sql_part_of, filled}

-- The SQL text of As is the text that it stores: `as_part` in SqlText.antt
abbrev pub AsPart : Type 0
AsPart =
    (s : List ℕ) → length s ≤ limit → Bytes s → (at : ℕ) (t : List ℕ) (end : ℕ) → read SqlMapping s at ≡ ok (plain Tag 1 ∷ string t ∷ []) end
    → (buffer : List ℕ) → sql_part_of s buffer (sql_text s at numeric_size) ≡ t

-- The part of a filled buffer is the Numeric text: `filled_part` in SqlText.antt
abbrev pub FilledPart : Type 0
FilledPart =
    (s : List ℕ) (at size : ℕ) (t : List ℕ) (end : ℕ) → sql_text s at size ≡ ok (in_buffer t) end
    → (buffer : List ℕ) → sql_part_of s (filled buffer (sql_text s at size)) (sql_text s at size) ≡ t
