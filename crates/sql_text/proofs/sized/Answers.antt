-- By the size.
use borrow.Author.Tests.{ne_eqb, eq-eqb}
use Rattle.sql_text.proofs.sized.Goals as goal

pub returns-then-size-ne-NUMERIC_SQL_SIZE : goal.returns-then-size-ne-NUMERIC_SQL_SIZE
returns-then-size-ne-NUMERIC_SQL_SIZE c = rw (ne_eqb _ 31 c.if-size-ne-NUMERIC_SQL_SIZE.true, c.at.ensures)

pub returns : goal.returns
returns c = rw (eq-eqb _ 31 c.if-size-ne-NUMERIC_SQL_SIZE.false)
