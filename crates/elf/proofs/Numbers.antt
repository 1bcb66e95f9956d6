-- Numbers of four and eight bytes.
use Prim.Native.Nat.{ℕ, ◌+◌, ◌*◌, ◌≤◌}
use native.Mathlib.Omega.{arith}
use mathlib.Core.List.{List}
use mathlib.Core.Path.{◌≡◌, ◌∙◌}
use lib.ListN.{length}
use Rattle.layout.specs.Reading.{number_at}
use Rattle.raw_bytes.specs.Bytes.{number_or0}
use Rattle.raw_bytes.proofs.Number.{number_there}
use Rattle.elf.specs.Elf.{little}

module _ (s : List ℕ) (at : ℕ) where
  four_little : number_at s at ≡ little 4 s at
  unfolding little
  four_little =
      let a : at + 1 + 1 ≡ at + 2 = omega arith in
      let b : at + 2 + 1 ≡ at + 3 = omega arith in
      rw (a, b) (omega arith)

  pub word_there : at + 4 ≤ length s → number_or0 s at ≡ little 4 s at
  word_there h = number_there s at h ∙ four_little

pub eight_words : (s : List ℕ) (at : ℕ) → little 8 s at ≡ little 4 s at + 4294967296 * little 4 s (at + 4)
unfolding little
eight_words s at =
    let a : at + 1 + 1 + 1 + 1 ≡ at + 4 = omega arith in
    rw a (omega arith)
