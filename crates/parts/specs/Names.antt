-- The walk over a declared name: whether the name is UTF-8, and where its SQL name starts (docs/FORMAT.md, Texts, SQL names and SQL texts).
use Rattle.std.specs.Prelude.{ℕ, ◌-◌, ◌≤◌, false, cond, List, Option, Some, None, ◌≡◌, leb, length, drop}
use Rattle.text.specs.Rfc3629.{Utf8}
use Rattle.text.specs.Walk.{State, start, wanted_after, accepting, utf8}
use Rattle.text.specs.States.{state_of}
use Rattle.text.specs.Colons.{Colons, colons_after, unwalked}
use Rattle.parts.specs.declared.NameWalk.{NameWalk}
use Rattle.parts.specs.Parts.{sql_name}

-- What is answered of a name: where its SQL name starts; or that it is not UTF-8
pub data SqlStart : Type 0 where
  starts_at : ℕ → SqlStart
  not_utf8 : SqlStart

-- The answer for a name: the SQL name starts where as many bytes follow as it has
unfoldable pub name_start : List ℕ → SqlStart
name_start name = cond (utf8 name) (starts_at (length name - length (sql_name name))) not_utf8

-- The answer by RFC 3629's grammar: what follows the start is the SQL name; or the grammar does not derive the name
abbrev pub ExactStart : List ℕ → SqlStart → Type 0
ExactStart name (starts_at k) = Utf8 name × (k ≤ length name) × (drop k name ≡ sql_name name)
ExactStart name not_utf8 = Utf8 name → ⊥

-- Where a walk stands: the state of the automaton, and what is known of the pairs of colons
pub record Standing : Type 0 where
  pub state : State
  pub colons : Colons

-- Before the first byte
abbrev pub unbegun : Standing
unbegun = record { state = start; colons = unwalked false }

-- The greatest number that a walk holds
abbrev pub most_held : ℕ
most_held = 18446744073709551615

-- A count as the walk holds it: it stops there
unfoldable pub held : ℕ → ℕ
held n = cond (leb n most_held) n most_held

-- Both counts as the walk holds them
abbrev pub held_colons : Colons → Colons
held_colons p = record { opened = p.opened; end = held p.end; seen = held p.seen }

-- After the bytes of l
abbrev pub walked_over : Standing → List ℕ → Standing
walked_over w l = record { state = wanted_after w.state l; colons = held_colons (colons_after w.colons l) }

-- A walk that began before the first byte of l stands here after the last
abbrev pub StandsAfter : List ℕ → Standing → Type 0
StandsAfter l w = w ≡ walked_over unbegun l

-- The answer of a walk that ends here: the SQL name starts where the last pair of colons ended, or with the name
unfoldable pub walk_answer : Standing → SqlStart
walk_answer w = cond (accepting w.state) (starts_at w.colons.end) not_utf8

-- The meaning of what the code holds
abbrev pub standing : NameWalk → Standing
standing w = record { state = state_of w.state; colons = record { opened = w.opened; end = w.start; seen = w.seen } }

-- The meaning of the code's answer
abbrev pub start_of : Option ℕ → SqlStart
start_of (Some k) = starts_at k
start_of None = not_utf8
