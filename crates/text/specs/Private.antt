-- Definitions for the contracts of private functions; no public contract cites them.
use Rattle.std.specs.Prelude.{◌≡◌, ℕ, ◌/◌, ◌%◌, ◌^◌, ◌<◌, ◌≤◌, Bool, false, List, length, take, slice_index}
use Rattle.text.specs.Walk.{State, start, tail_1, tail_2, tail_3, after_e0, after_ed, after_f0, after_f4, failed, step, wanted_after}
use Rattle.text.specs.declared.ColonWalk.{ColonWalk}
use Rattle.text.specs.States.{state_of}
use Rattle.text.specs.Colons.{colons_after, unwalked}

-- A state as the walk holds it: the place of its 6 bits in a row of the table
abbrev pub code : State → ℕ
code start = 0
code tail_1 = 6
code tail_2 = 12
code tail_3 = 18
code after_e0 = 24
code after_ed = 30
code after_f0 = 36
code after_f4 = 42
code failed = 48

-- The rule of the two tables: at each state's place, the row of a byte's class has the code of the next state
pub record Encodes (classes rows : List ℕ) : Type 0 where
  pub small : (b : ℕ) → b < 256 → slice_index classes b < 12
  pub right : (q : State) (b : ℕ) → b < 256 → (slice_index rows (slice_index classes b) / 2 ^ code q) % 64 ≡ code (step q b)

-- From x, whose lowest six bits are the code of a state, the byte b leads to r, whose lowest six bits are that of the next one
abbrev pub Follows : ℕ → ℕ → ℕ → Type 0
Follows x b r = (p : State) → x % 64 ≡ code p → r % 64 ≡ code (step p b)

-- From x, the code of a state, the walk over s leads to r, the code of the state after its bytes
abbrev pub Reaches : List ℕ → ℕ → ℕ → Type 0
Reaches s x r = (p : State) → x ≡ code p → r ≡ code (wanted_after p s)

-- The bytes of s from a up to e are below 128
abbrev pub Ascii : List ℕ → ℕ → ℕ → Type 0
Ascii s a e = (k : ℕ) → a ≤ k → k < e → slice_index s k < 128

-- q is the state whose code is x, if any state has that code
abbrev pub Decodes : ℕ → State → Type 0
Decodes x q = (p : State) → x ≡ code p → q ≡ p

-- After the first a bytes of s, walked with a pair of colons open or not, none is open, and the last one ended at e
abbrev pub Closed : List ℕ → Bool → ℕ → ℕ → Type 0
Closed s opened a e = colons_after (unwalked opened) (take a s) ≡ record { opened = false; end = e; seen = a }

-- From there on the walk comes to where that holds of i and f
abbrev pub StaysClosed : List ℕ → ℕ → ℕ → ℕ → ℕ → Type 0
StaysClosed s a e i f = (opened : Bool) → Closed s opened a e → Closed s opened i f

-- r is where a walk over s ends that stood at q after the first a bytes, with no pair open and the last one ended at e
pub record Completes (s : List ℕ) (a e : ℕ) (q : State) (r : ColonWalk) : Type 0 where
  pub states : (p : State) → q ≡ wanted_after p (take a s) → state_of r.state ≡ wanted_after p s
  pub colons : (opened : Bool) → Closed s opened a e → colons_after (unwalked opened) s ≡ record { opened = r.opened; end = r.end; seen = length s }
