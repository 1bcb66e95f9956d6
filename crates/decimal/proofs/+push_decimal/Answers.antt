-- The digits of the tenth, if there are any, then the last digit.
use Rattle.decimal.proofs.Numeral.{digit_added, front_added}
use Rattle.decimal.proofs.+push_decimal.Goals as goal
use Rattle.decimal.proofs.+push_decimal.Goals.{then-n-ge10, else-n-ge10}

pub returns : goal.returns
returns g t c =
    rw c.push.ensures (elim c.if-n-ge10.branch [
      | then-n-ge10 w ↦ rw w.text-is (front_added g.row.N c.args.n c.args.text.now _ w.if-n-ge10.true w.push_decimal.ensures)
      | else-n-ge10 w ↦ rw w.text-is (digit_added g.row.N c.args.n c.args.text.now w.if-n-ge10.false)
    ])
