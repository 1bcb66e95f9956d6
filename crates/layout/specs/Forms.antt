-- The forms in which layouts are written (docs/FORMAT.md, Notation). T is `text`.
use Rattle.std.specs.Prelude.{ℕ, zero, suc, cond, List, [], ◌∷◌, eqb}
use Rattle.layout.specs.Layout.{Kind, Tag, Flag, Number, Count, Fault, unknown_kind, unknown_tag, Verdict, fine, wrong, Layout, nothing, one, ◌then◌, case}

-- N
abbrev pub number : Layout
number = one Number

-- F
abbrev pub flag : Layout
flag = one Flag

-- n items. The rest is bound by `let`, so that a large n is not unrolled
abbrev pub times : ℕ → Layout → Layout
times zero L = nothing
times (suc n) L = let rest = times n L in L then rest

-- Nothing to judge
abbrev pub any : ℕ → Verdict
any n = fine

-- A list: a count, then that many items
abbrev pub list : Layout → Layout
list L = case Count nothing any (λ n. times n L)

-- The optional part, unless the flag is 0
abbrev pub only_if : Layout → ℕ → Layout
only_if L zero = nothing
only_if L (suc n) = L

-- "May": a flag, then the optional part if it is 1
abbrev pub may : Layout → Layout
may L = case Flag nothing any (only_if L)

infix 70 ◌⇒◌
-- A tag, and what follows it
abbrev pub ◌⇒◌ : ℕ → Layout → ℕ × Layout
n ⇒ L = (n, L)

-- A table of the known tags, with what follows each
abbrev pub Tags : Type 0
Tags = List (ℕ × Layout)

-- A tag is known if it is in the table
abbrev pub known : Fault → Tags → ℕ → Verdict
known f [] n = wrong f
known f (row ∷ rows) n = cond (eqb n row.0) fine (known f rows n)

-- What follows a tag
abbrev pub follows : Tags → ℕ → Layout
follows [] n = nothing
follows (row ∷ rows) n = cond (eqb n row.0) row.1 (follows rows n)

-- An entity kind, then what follows it
abbrev pub kinds : Tags → Layout
kinds rows = case Kind nothing (known unknown_kind rows) (follows rows)

-- Another tag, then what follows it
abbrev pub tags : Tags → Layout
tags rows = case Tag nothing (known unknown_tag rows) (follows rows)

-- A tag that is judged only after another part, which comes before what follows the tag
abbrev pub tags_after : Layout → Tags → Layout
tags_after L rows = case Tag L (known unknown_tag rows) (follows rows)
