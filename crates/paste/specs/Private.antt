-- Definitions for the contracts of private functions; no public contract cites them.
use Rattle.std.specs.Prelude.{ℕ, ◌+◌, List}
use Rattle.std.proofs.Math.Seq.{slice}
use Rattle.paste.specs.Pasted.{pasted}

-- A list with the bytes from a up to e stored in it, each at its place when all of them are stored from `at` on
unfoldable pub copied : (out : List ℕ) → (at : ℕ) → (bytes : List ℕ) → (a e : ℕ) → List ℕ
copied out at bytes a e = pasted out (at + a) (slice a e bytes)
