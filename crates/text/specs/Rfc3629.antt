-- RFC 3629, section 4, "Syntax of UTF-8 Byte Sequences": which lists of bytes are UTF-8.
-- The comment on each definition quotes the rules of the RFC's grammar that it states.
use Rattle.std.specs.Prelude.{ℕ, ◌≤◌, List, [], ◌∷◌, ◌++◌}

infix 80 ◌to◌
-- A range of byte values, both ends included: %xLO-HI
pub data Range : Type 0 where
  ◌to◌ : ℕ → ℕ → Range

-- A single byte value: %xN
abbrev pub only : ℕ → Range
only n = n to n

-- UTF8-tail = %x80-BF
abbrev pub tail : Range
tail = 0x80 to 0xBF

-- The byte b lies in the range
abbrev pub In : Range → ℕ → Type 0
In (lo to hi) b = (lo ≤ b) × (b ≤ hi)

-- One byte of each range, in the order of the ranges
pub data Sequence : List Range → List ℕ → Type 0 where
  done : Sequence [] []
  byte : {r : Range} {rs : List Range} {b : ℕ} {c : List ℕ} → In r b → Sequence rs c → Sequence (r ∷ rs) (b ∷ c)

-- The bytes of one character: UTF8-char = UTF8-1 / UTF8-2 / UTF8-3 / UTF8-4
pub data Char (c : List ℕ) : Type 0 where
  -- UTF8-1 = %x00-7F
  utf8_1 : Sequence (0x00 to 0x7F ∷ []) c → Char c
  -- UTF8-2 = %xC2-DF UTF8-tail
  utf8_2 : Sequence (0xC2 to 0xDF ∷ tail ∷ []) c → Char c
  -- UTF8-3 = %xE0 %xA0-BF UTF8-tail / %xE1-EC 2( UTF8-tail ) / %xED %x80-9F UTF8-tail / %xEE-EF 2( UTF8-tail )
  utf8_3_e0 : Sequence (only 0xE0 ∷ 0xA0 to 0xBF ∷ tail ∷ []) c → Char c
  utf8_3_e1 : Sequence (0xE1 to 0xEC ∷ tail ∷ tail ∷ []) c → Char c
  utf8_3_ed : Sequence (only 0xED ∷ 0x80 to 0x9F ∷ tail ∷ []) c → Char c
  utf8_3_ee : Sequence (0xEE to 0xEF ∷ tail ∷ tail ∷ []) c → Char c
  -- UTF8-4 = %xF0 %x90-BF 2( UTF8-tail ) / %xF1-F3 3( UTF8-tail ) / %xF4 %x80-8F 2( UTF8-tail )
  utf8_4_f0 : Sequence (only 0xF0 ∷ 0x90 to 0xBF ∷ tail ∷ tail ∷ []) c → Char c
  utf8_4_f1 : Sequence (0xF1 to 0xF3 ∷ tail ∷ tail ∷ tail ∷ []) c → Char c
  utf8_4_f4 : Sequence (only 0xF4 ∷ 0x80 to 0x8F ∷ tail ∷ tail ∷ []) c → Char c

-- Any number of characters: UTF8-octets = *( UTF8-char )
pub data Utf8 : List ℕ → Type 0 where
  none : Utf8 []
  more : {c l : List ℕ} → Char c → Utf8 l → Utf8 (c ++ l)
