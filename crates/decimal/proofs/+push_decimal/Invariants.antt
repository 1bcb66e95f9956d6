-- The front of the number is shorter.
use Rattle.decimal.proofs.+push_decimal.Given as goal

abbrev pub decreases-push_decimal : goal.decreases-push_decimal
decreases-push_decimal g l = l.n
