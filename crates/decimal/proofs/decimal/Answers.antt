use Rattle.std.proofs.Common.{arith}
use Rattle.decimal.proofs.Numeral.{all_added}
use Rattle.decimal.proofs.decimal.Goals as goal

pub returns : goal.returns
returns c = rw (c.push_decimal.ensures, c.new-digits.ensures) (all_added c.args.n (omega arith))
