-- The worked cases (docs/FORMAT.md, Worked cases), in one table.
use Rattle.std.specs.Prelude.{ℕ, List, [], ◌∷◌, ◌≡◌, replicate}
use Rattle.std.proofs.Math.Option.{Option, none, some}
use Rattle.decimal.specs.Ascii.{ascii}
use Rattle.layout.specs.Layout.{Value, leaves}
use Rattle.layout.specs.Written.{rows_from}
use Rattle.layout.specs.Entities.{Entity, Schema, FunctionMetadataType, OptionResolution, ArgumentSql, ReturnSql, Returns, SqlMapping}
use Rattle.layout.specs.Reading.{ok}
use Rattle.layout.specs.Alone.{Derives}
use Rattle.layout.specs.ReadAlone.{reading_alone}
use Rattle.writing.specs.Writing.{write}
use Rattle.section.specs.Derivation.{Item, sentinel, entity, Derivation}
use Rattle.section.specs.Refusals.{SectionRefusal}
use Rattle.section.specs.Demand3.{Good}
use Rattle.numeric.specs.Numeric.{numeric_text}
use Rattle.listing.specs.Listing.{lent_table, result_lines, listing}

-- The input of a case: a section with its derivation; a section with the number and place of its refusal; a metadata record
-- with its value and its length; the precision and scale of a Numeric mapping
pub data Input : Type 0 where
  derived : List ℕ → Derivation → Input
  bad : List ℕ → (number place : ℕ) → Input
  metadata : List ℕ → Value FunctionMetadataType → (size : ℕ) → Input
  numeric : (precision scale : Option ℕ) → Input

-- What is shown for it: the listing; the same lines for a metadata record; the SQL text
abbrev pub shown : Input → List ℕ
shown (derived s d) = listing s
shown (bad s n p) = listing s
shown (metadata s v size) = result_lines (reading_alone FunctionMetadataType 0 s lent_table)
shown (numeric precision scale) = numeric_text precision scale

-- What the layouts say about it: the derivation derives the section; the section meets the refusal's condition; the value
-- derives the record, and the record is written from the rows of its leaves, with its length
abbrev pub Holds : Input → Type 0
Holds (derived s d) = Good s d
Holds (bad s n p) = SectionRefusal s n p
Holds (metadata s v size) =
    Derives FunctionMetadataType s v × (write FunctionMetadataType (rows_from 0 (leaves FunctionMetadataType v)) [] size ≡ ok s size)
Holds (numeric precision scale) = Unit {0}

-- A derivation without entries
abbrev pub only_padding : ℕ → Derivation
only_padding n = record { items = []; padding = n }

-- A derivation with one item
abbrev pub alone : Item → Derivation
alone i = record { items = i ∷ []; padding = 0 }

-- A schema of three empty texts and the line 0
unfoldable pub empty_schema : Value Entity
unfolding Entity Schema
empty_schema = (1, tt, ([], ([], ([], 0))))

-- No resolution, the argument Skip, the result One of Skip
unfoldable pub skip_and_one_of_skip : Value FunctionMetadataType
unfolding FunctionMetadataType OptionResolution ArgumentSql ReturnSql Returns SqlMapping
skip_and_one_of_skip = ((0, tt, tt), ((1, tt, (5, tt, tt)), (1, tt, (1, tt, (5, tt, tt)))))

-- The cases, each with what FORMAT.md shows for it
unfoldable pub cases : List (Input × List ℕ)
cases =
    (derived (0x11 ∷ 0x00 ∷ 0x00 ∷ 0x00 ∷ 0x01 ∷ replicate 16 0x00) (alone (entity empty_schema)), ascii "accept 1 5\n1 4 1\n6 9 0\n6 13 0\n6 17 0\n4 17 0\n")
    ∷ (derived [] (only_padding 0), ascii "accept 0 0\n")
    ∷ (derived (0x00 ∷ 0x00 ∷ 0x00 ∷ []) (only_padding 3), ascii "accept 0 0\n")
    ∷ (derived (0x00 ∷ 0x00 ∷ 0x00 ∷ 0x00 ∷ []) (only_padding 4), ascii "accept 0 0\n")
    ∷ (derived (0x09 ∷ 0x00 ∷ 0x00 ∷ 0x00 ∷ 0x00 ∷ 0x04 ∷ 0x00 ∷ 0x00 ∷ 0x00 ∷ 0x70 ∷ 0x67 ∷ 0x72 ∷ 0x78 ∷ []) (alone sentinel), ascii "accept 0 0\n")
    ∷ (bad (0x00 ∷ 0x01 ∷ []) 2 0, ascii "refuse 2 0\n")
    ∷ (bad (0x00 ∷ 0x00 ∷ 0x00 ∷ 0x00 ∷ 0x05 ∷ []) 3 0, ascii "refuse 3 0\n")
    ∷ (bad (0x02 ∷ 0x00 ∷ 0x00 ∷ 0x00 ∷ 0x01 ∷ []) 4 0, ascii "refuse 4 0\n")
    ∷ (bad (0x01 ∷ 0x00 ∷ 0x00 ∷ 0x00 ∷ 0x0A ∷ []) 8 4, ascii "refuse 8 4\n")
    ∷ (bad (0x01 ∷ 0x00 ∷ 0x00 ∷ 0x00 ∷ 0x0A ∷ 0x01 ∷ []) 2 5, ascii "refuse 2 5\n")
    ∷ (bad (0x12 ∷ 0x00 ∷ 0x00 ∷ 0x00 ∷ 0x01 ∷ replicate 17 0x00) 12 21, ascii "refuse 12 21\n")
    ∷ (metadata (0x00 ∷ 0x01 ∷ 0x05 ∷ 0x01 ∷ 0x01 ∷ 0x05 ∷ []) skip_and_one_of_skip 6, ascii "accept 0 6\n3 0 0\n2 1 1\n2 2 5\n2 3 1\n2 4 1\n2 5 5\n")
    ∷ (numeric (some 10) (some 2), ascii "NUMERIC(10, 2)")
    ∷ (numeric none (some 5), ascii "NUMERIC")
    ∷ []

-- What holds for each case
abbrev pub Each : List (Input × List ℕ) → Type 0
Each [] = Unit {0}
Each (c ∷ cs) = (shown c.0 ≡ c.1) × Holds c.0 × Each cs

-- Each case is shown as stated, and the layouts agree: `cases_hold` in proofs/Cases.antt
abbrev pub CasesHold : Type 0
CasesHold = Each cases
