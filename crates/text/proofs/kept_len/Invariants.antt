-- No place above k, up to 63, is a boundary.
use Rattle.std.proofs.Common.{◌≡◌}
use Rattle.text.specs.Kept.{boundary_up_to, kept_length}
use Rattle.text.proofs.kept_len.Given as goal

abbrev pub invariant-loop-k : goal.invariant-loop-k
invariant-loop-k l = kept_length l.s ≡ boundary_up_to l.s l.k
