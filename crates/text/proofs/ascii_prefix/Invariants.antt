-- The blocks so far are ASCII; the last one may overlap them.
use Rattle.std.proofs.Common.{◌*◌}
use Rattle.text.specs.Private.{Ascii}
use Rattle.text.proofs.ascii_prefix.Given as goal

abbrev pub invariant-loop-k : goal.invariant-loop-k
invariant-loop-k l = Ascii l.s 0 (l.k * 64)
