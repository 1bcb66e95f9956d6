-- The flag alone.
use native.Mathlib.Omega.{arith}
use mathlib.Core.Path.{sym}
use Rattle.length.proofs.Sums.{within_limit_lem}
use Rattle.length.proofs.opt_len.Goals as goal

pub returns-in-None : goal.returns-in-None
returns-in-None c = rw c.in-None.is (sym (within_limit_lem 1 (omega arith)))
