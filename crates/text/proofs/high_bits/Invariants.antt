-- The bytes of the words so far are ASCII if no bit is collected.
use Rattle.std.proofs.Common.{◌≡◌, ◌*◌}
use Rattle.text.specs.Private.{Ascii}
use Rattle.text.proofs.high_bits.Given as goal

abbrev pub invariant-loop-word : goal.invariant-loop-word
invariant-loop-word l = l.bits ≡ 0 → Ascii l.s 0 (l.word-index * 4)
