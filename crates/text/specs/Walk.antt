-- The same syntax as an automaton that reads the bytes from left to right, and the test `utf8` based on it.
-- Theorems.antt states how the test and RFC 3629's grammar agree.
use Rattle.std.specs.Prelude.{ℕ, Bool, true, false, ◌&&◌, List, [], ◌∷◌, nat_le}
use mathlib.Core.List.{foldl}
use Rattle.text.specs.Rfc3629.{Range, ◌to◌, only, tail}

infix 70 ◌⇒◌
-- What is wanted next: nothing, at the start of a character; one to three bytes of UTF8-tail; a second byte in the range that
-- one of four first bytes narrows; or, after a wrong byte, something that no byte satisfies
pub data State : Type 0 where
  start : State
  tail_1 : State
  tail_2 : State
  tail_3 : State
  after_e0 : State
  after_ed : State
  after_f0 : State
  after_f4 : State
  failed : State

-- A transition: a byte of the range leads to the state
pub data Transition : Type 0 where
  ◌⇒◌ : Range → State → Transition

-- The transitions of each state
abbrev pub transitions : State → List Transition
transitions start =
    0x00 to 0x7F ⇒ start
    ∷ 0xC2 to 0xDF ⇒ tail_1
    ∷ only 0xE0 ⇒ after_e0
    ∷ 0xE1 to 0xEC ⇒ tail_2
    ∷ only 0xED ⇒ after_ed
    ∷ 0xEE to 0xEF ⇒ tail_2
    ∷ only 0xF0 ⇒ after_f0
    ∷ 0xF1 to 0xF3 ⇒ tail_3
    ∷ only 0xF4 ⇒ after_f4
    ∷ []
transitions tail_1 = tail ⇒ start ∷ []
transitions tail_2 = tail ⇒ tail_1 ∷ []
transitions tail_3 = tail ⇒ tail_2 ∷ []
transitions after_e0 = 0xA0 to 0xBF ⇒ tail_1 ∷ []
transitions after_ed = 0x80 to 0x9F ⇒ tail_1 ∷ []
transitions after_f0 = 0x90 to 0xBF ⇒ tail_2 ∷ []
transitions after_f4 = 0x80 to 0x8F ⇒ tail_2 ∷ []
transitions failed = []

-- Whether the byte b lies in the range
abbrev pub within : Range → ℕ → Bool
within (lo to hi) b = nat_le lo b && nat_le b hi

-- The first state if the test passes, else the second
abbrev pub pick : Bool → State → State → State
pick true q r = q
pick false q r = r

-- The state of the first transition whose range contains the byte; failed if there is none
abbrev pub follow : List Transition → ℕ → State
follow [] b = failed
follow (r ⇒ q ∷ rest) b = pick (within r b) q (follow rest b)

-- The state after one more byte
unfoldable pub step : State → ℕ → State
step q b = follow (transitions q) b

-- The state after the bytes of l, from the state q
abbrev pub wanted_after : State → List ℕ → State
wanted_after q l = foldl step q l

-- Nothing is wanted
abbrev pub accepting : State → Bool
accepting start = true
accepting tail_1 = false
accepting tail_2 = false
accepting tail_3 = false
accepting after_e0 = false
accepting after_ed = false
accepting after_f0 = false
accepting after_f4 = false
accepting failed = false

-- The bytes are UTF-8: nothing is wanted after the last of them
abbrev pub utf8 : List ℕ → Bool
utf8 l = accepting (wanted_after start l)
