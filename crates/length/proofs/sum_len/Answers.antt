-- The sum is above the limit, or not.
use Prim.Native.Nat.{◌+◌}
use native.Mathlib.Omega.{arith}
use mathlib.Core.Path.{sym, ◌∙◌}
use Rattle.length.proofs.Sums.{within_limit_lem, above_limit}
use Rattle.length.proofs.sum_len.Goals as goal

pub returns-then-head-len : goal.returns-then-head-len
returns-then-head-len c = c.too_long.ensures ∙ sym (above_limit (c.args.head + c.args.len) (omega arith))

pub returns : goal.returns
returns c = sym (within_limit_lem (c.args.head + c.args.len) (omega arith))
