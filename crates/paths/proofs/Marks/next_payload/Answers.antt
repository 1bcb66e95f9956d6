-- The length 0 ends the entries, and another begins one.
use mathlib.Core.Path.{sym, ◌∙◌}
use Rattle.paths.proofs.Walk.{rest_step, rest_end}
use Rattle.paths.proofs.Marks.next_payload.Goals as goal

pub returns-then-size-eq0-clause-first : goal.returns-then-size-eq0-clause-first
returns-then-size-eq0-clause-first c = rest_end c.requires (sym c.number_at-size.ensures ∙ c.if-size-eq0.true)

pub returns-clause-first : goal.returns-clause-first
returns-clause-first c = rest_step c.requires c.number_at-size.result c.number_at-size.ensures c.if-size-eq0.false
