-- What only the private functions of the crate promise one another. No public contract cites anything here.
use Rattle.std.specs.Prelude.{ℕ, ◌+◌, ◌≤◌, ◌<◌, cond, List, [], ◌∷◌, ◌++◌, ◌≡◌, eqb, length, get_or, take, Option, Some, None, IfSome}
use Rattle.layout.specs.Answers.{limit}
use Rattle.raw_bytes.specs.Bytes.{number_or0}
use Rattle.section.specs.Derivation.{placed}
use Rattle.section.specs.Rest.{Rest}
use Rattle.runs.specs.Runs.{text_from, kind_and_text, kinds_and_texts, equals, pairs}
use Rattle.paths.specs.Paths.{kinds_and_paths}

-- The field of a text or a number
pub data Field : Type 0 where
  T : Field
  N : Field

-- Where a field that begins at a place ends
abbrev pub after_field : List ℕ → Field → ℕ → ℕ
after_field s T at = at + 4 + number_or0 s at
after_field s N at = at + 4

-- Where fields end of which the first begins at a place
abbrev pub after_fields : List ℕ → List Field → ℕ → ℕ
after_fields s [] at = at
after_fields s (f ∷ fs) at = after_fields s fs (after_field s f at)

-- A kind with a full_path, and the fields before it
abbrev pub fields_before : List (ℕ × List Field)
fields_before =
    (2, T ∷ T ∷ [])
    ∷ (3, T ∷ T ∷ T ∷ [])
    ∷ (4, T ∷ T ∷ N ∷ T ∷ [])
    ∷ (5, T ∷ T ∷ N ∷ T ∷ [])
    ∷ (6, T ∷ T ∷ N ∷ [])
    ∷ (7, T ∷ T ∷ N ∷ [])
    ∷ (8, [])
    ∷ (9, T ∷ T ∷ N ∷ T ∷ [])
    ∷ []

-- Where the fields before the full_path end, for a kind that has one
abbrev pub place_by : List (ℕ × List Field) → List ℕ → (kind at : ℕ) → Option ℕ
place_by [] s kind at = None
place_by (row ∷ rows) s kind at = cond (eqb kind row.0) (Some (after_fields s row.1 at)) (place_by rows s kind at)

-- The place of the full_path of the payload that begins at a place, if it has one
unfoldable pub path_place : List ℕ → ℕ → Option ℕ
path_place s at = place_by fields_before s (get_or s at 0) (at + 1)

-- A kind and the text at a place, if there is a place
abbrev pub kind_and_text_at : List ℕ → (kind : ℕ) → Option ℕ → List (List ℕ)
kind_and_text_at s kind None = []
kind_and_text_at s kind (Some place) = (kind ∷ text_from s place) ∷ []

-- The kind and the full_path of the payload that begins at a place, if it has one
unfoldable pub path_at : List ℕ → ℕ → List (List ℕ)
path_at s at = kind_and_text_at s (get_or s at 0) (path_place s at)

-- The kinds and the full_path texts of the entities from a boundary on
abbrev pub paths_of : {s : List ℕ} {at : ℕ} → Rest s at → List (List ℕ)
paths_of {s} {at} w = kinds_and_paths (placed at w.derivation.items)

-- A place from which a few lengths can be added
abbrev pub far : ℕ
far = 1099511627776

-- What a text can take, with its length
abbrev pub longest : ℕ
longest = 4294967300

-- A payload that begins at a place is inside s, and so is the length of its full_path, if it has one
pub record PayloadIn (s : List ℕ) (at : ℕ) : Type 0 where
  pub small : length s ≤ limit
  pub begins : at < length s
  pub path : IfSome (path_place s at) (λ place. place + 4 ≤ length s)

-- The pairs of one of some lists with one of some others
abbrev pub pairs_with : List (List ℕ) → List (List ℕ) → ℕ
pairs_with [] us = 0
pairs_with (t ∷ ts) us = equals t us + pairs_with ts us

-- n is the number of pairs from a boundary on
abbrev pub Counts : List ℕ → (at n : ℕ) → Type 0
Counts s at n = (w : Rest s at) → n ≡ pairs (paths_of w)

-- n is the number of full_path texts from a boundary on that are what a mark stands for
pub record Equals (s : List ℕ) (mark at n : ℕ) : Type 0 where
  pub small : n ≤ limit
  pub counts : (w : Rest s at) → n ≡ equals (kind_and_text s mark) (paths_of w)

-- Of the full_path texts there are as many as found, and their marks stand in the work, if it has room for them
pub record Gathered (s work : List ℕ) (found : ℕ) : Type 0 where
  pub small : found ≤ limit
  pub are : found ≤ length work → (w : Rest s 0) → kinds_and_texts s (take found work) ≡ paths_of w

-- From a boundary on there is no full_path
abbrev pub NoneLeft : List ℕ → (at : ℕ) → Type 0
NoneLeft s at = (w : Rest s at) → paths_of w ≡ []

-- From a boundary on the first texts are those given, and the others follow from a later boundary on
pub record First (s : List ℕ) (at : ℕ) (texts : List (List ℕ)) (later : ℕ) : Type 0 where
  pub rest : Rest s later
  pub on : at < later
  pub are : (w : Rest s at) → paths_of w ≡ texts ++ paths_of rest
