-- A table cleared from its first number on is all 0.
use Rattle.table.proofs.Cleared.{cleared_all}
use Rattle.table.proofs.refuse.Goals as goal

pub returns : goal.returns
returns c = simp (c.clear_from.ensures, cleared_all)
