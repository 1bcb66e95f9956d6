-- The contracts of storing rows, once nothing is refused.
use Rattle.std.specs.Prelude.{ℕ, ◌*◌, ◌≤◌, List, [], ◌∷◌, ◌++◌, ◌≡◌, length, drop}
use Rattle.layout.specs.Layout.{Kind, Leaf, plain, string}
use Rattle.layout.specs.Written.{four, bytes_of, row_width}
use Rattle.layout.specs.Answers.{limit}
use Rattle.writing.specs.Refusals.{RowGives, Along, Sized, GoodTexts}

-- The rows give leaves: they are whole rows, one for each leaf, and the leaf's number fits
pub record Gives (rows text : List ℕ) (ls : List Leaf) : Type 0 where
  pub whole : length rows ≡ row_width * length ls
  pub give : Along (λ i x. RowGives rows text i x × Sized x) 0 ls

-- Storing rows: if they give leaves, with good texts, and the destination has space, it then has the bytes of the leaves, and
-- after them what was there
abbrev pub Stores : (rows text dest after : List ℕ) → Type 0
Stores rows text dest after =
    (ls : List Leaf) → Gives rows text ls → GoodTexts rows text → length (bytes_of ls) ≤ length dest
    → after ≡ bytes_of ls ++ drop (length (bytes_of ls)) dest

-- A leaf is not the kind of an entity
abbrev pub NoKind : Leaf → Type 0
NoKind (plain srt n) = srt ≡ Kind → ⊥
NoKind (string t) = Unit {0}

-- The leaves of an entity: its kind, and others that are no kinds
pub record KindFirst (ls : List Leaf) : Type 0 where
  pub kind : ℕ
  pub others : List Leaf
  pub first : ls ≡ plain Kind kind ∷ others
  pub none : Along (λ i x. NoKind x) 1 others

-- Those of several
abbrev pub KindsFirst : List (List Leaf) → Type 0
KindsFirst [] = Unit {0}
KindsFirst (ls ∷ more) = KindFirst ls × KindsFirst more

-- All leaves, one after the other
abbrev pub joined : List (List Leaf) → List Leaf
joined [] = []
joined (ls ∷ more) = ls ++ joined more

-- The entries of leaves: of each the number of its bytes, and the bytes
abbrev pub entries_of : List (List Leaf) → List ℕ
entries_of [] = []
entries_of (ls ∷ more) = (four (length (bytes_of ls)) ++ bytes_of ls) ++ entries_of more

-- Storing rows as entries: if they give the leaves of one entity or more, with good texts, whose entries are at most the limit,
-- and the destination has space, it then has the entries, and after them what was there
abbrev pub StoresEntries : (rows text dest after : List ℕ) → Type 0
StoresEntries rows text dest after =
    (ls : List Leaf) (more : List (List Leaf)) → let all = ls ∷ more in
    KindsFirst all → Gives rows text (joined all) → GoodTexts rows text → length (entries_of all) ≤ limit → length (entries_of all) ≤ length dest
    → after ≡ entries_of all ++ drop (length (entries_of all)) dest
