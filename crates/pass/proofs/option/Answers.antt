-- The flag, then the part if it is set.
use mathlib.Core.Path.{sym, ◌∙◌}
use Rattle.pass.proofs.Passes.{may_in, may_out, is_set, not_set}
use Rattle.pass.proofs.option.Goals as goal

pub returns-then-bool : goal.returns-then-bool
returns-then-bool g c L f = may_in c.bool.ensures.runs (is_set _ (sym c.bool.ensures.value ∙ c.if-bool.true)) (f _ _ c.part.ensures)

pub returns-else-bool : goal.returns-else-bool
returns-else-bool g c L f = may_out c.bool.ensures.runs (not_set _ (sym c.bool.ensures.value ∙ c.if-bool.false))
