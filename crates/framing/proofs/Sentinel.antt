-- The sentinel, by the number of its first eight bytes and by its last byte.
use Prim.Native.Nat.{ℕ, ◌+◌, ◌*◌, ◌<◌}
use native.Mathlib.Omega.{arith}
use mathlib.Core.Bool.{Bool, true, false, ◌&&◌}
use mathlib.Core.List.{List, [], ◌∷◌, ◌++◌}
use mathlib.Core.Logic.{◌↔◌}
use mathlib.Core.Path.{◌≡◌, refl, sym, ap, ◌∙◌}
use lib.Dec.{eqb}
use lib.ListN.{length, get_or, take, drop, drop_of_length-le}
use borrow.Author.Tests.{ne_eqb}
use Rattle.std.proofs.Common.{get_or-take, get_or-drop}
use Rattle.layout.specs.Written.{four}
use Rattle.layout.specs.Reading.{number_at}
use Rattle.layout.specs.Theorems.{Bytes}
use Rattle.layout.proofs.InBytes.{byte_there, four_sound, number_small}
use Rattle.layout.proofs.BadReads.{not_true}
use Rattle.raw_bytes.specs.Bytes.{same}
use Rattle.raw_bytes.proofs.Compared.{same_sound}
use Rattle.framing.specs.Entries.{sentinel_bytes}

-- The number of the first eight bytes
abbrev head_of : List ℕ → ℕ
head_of s = number_at s 0 + 4294967296 * number_at s 4

-- Both clauses, from the first
pub told : (payload : List ℕ) (r : Bool) → r ≡ same payload sentinel_bytes → (r ≡ same payload sentinel_bytes) × ((r ≡ true) ↔ (payload ≡ sentinel_bytes))
told payload r e = (e, ((λ t. same_sound payload sentinel_bytes (sym e ∙ t)), λ q. e ∙ ap (λ (l : List ℕ). same l sentinel_bytes) q))

module _ (payload : List ℕ) (n : ℕ) (e : n ≡ head_of payload) where
  pub other_head : (n ≡ head_of sentinel_bytes → ⊥) → eqb n (head_of sentinel_bytes) ≡ same payload sentinel_bytes
  other_head f =
      ne_eqb n (head_of sentinel_bytes) f
      ∙ sym (not_true (same payload sentinel_bytes) (λ q. f (e ∙ ap head_of (same_sound payload sentinel_bytes q))))

  -- The first eight bytes are the sentinel's: the last byte decides
  module _ (u : Bytes payload) (l : length payload ≡ 9) (k : n ≡ head_of sentinel_bytes) where
    low : number_at payload 0 ≡ 1024
    low = omega (arith, e, k, number_small payload u 0 (omega arith), number_small payload u 4 (omega arith))

    high : number_at payload 4 ≡ 1919381504
    high = omega (arith, e, k, low)

    spelt : payload ≡ four 1024 ++ (four 1919381504 ++ (get_or payload 8 0 ∷ []))
    spelt =
        four_sound payload u 0 (omega arith)
        ∙ ap (λ (a : ℕ). four a ++ drop 4 payload) low
        ∙ ap (λ (a : List ℕ). four 1024 ++ a)
        (four_sound payload u 4 (omega arith)
        ∙ ap (λ (a : ℕ). four a ++ drop 8 payload) high
        ∙ ap (λ (a : List ℕ). four 1919381504 ++ a) (byte_there payload 8 (omega arith) ∙ ap (λ (a : List ℕ). get_or payload 8 0 ∷ a) (drop_of_length-le payload {i = 9} (omega arith))))

    and_true : (b : Bool) → b ≡ (b && true)
    and_true true = refl
    and_true false = refl

    pub by_last : (b : ℕ) → b ≡ get_or payload 8 0 → eqb b 0x78 ≡ same payload sentinel_bytes
    by_last b q = rw q (and_true (eqb (get_or payload 8 0) 0x78) ∙ sym (ap (λ (a : List ℕ). same a sentinel_bytes) spelt))

-- The parts of a payload
module _ (payload head last : List ℕ) (h : head ≡ take 8 payload) (t : last ≡ drop 8 payload) where
  byte : (i : ℕ) → i < 8 → get_or head i 0 ≡ get_or payload i 0
  byte i k = rw h (get_or-take 8 payload i 0 k)

  pub head_there : (n : ℕ)
      → n ≡ get_or head 0 0 + get_or head 1 0 * 256 + get_or head 2 0 * 65536 + get_or head 3 0 * 16777216 + get_or head 4 0 * 4294967296 + get_or head 5 0 * 1099511627776 + get_or head 6 0 * 281474976710656 + get_or head 7 0 * 72057594037927936
      → n ≡ head_of payload
  head_there n e = omega (arith, e, byte 0 (omega arith), byte 1 (omega arith), byte 2 (omega arith), byte 3 (omega arith), byte 4 (omega arith), byte 5 (omega arith), byte 6 (omega arith), byte 7 (omega arith))

  pub last_there : get_or last 0 0 ≡ get_or payload 8 0
  last_there = rw t (get_or-drop 8 payload 0 0)
