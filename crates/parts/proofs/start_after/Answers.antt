-- No pair among the bytes, or one.
use Rattle.std.proofs.Common.{sym, ◌∙◌, eq-eqb, ne_eqb, arith}
use Rattle.parts.proofs.Names.{held_small, held_is}
use Rattle.parts.proofs.start_after.Goals as goal

pub returns-then-end-eq0 : goal.returns-then-end-eq0
returns-then-end-eq0 c = rw (eq-eqb _ 0 c.if-end-eq0.true) (sym (held_small c.args.start (omega arith)))

pub returns : goal.returns
returns c = rw (ne_eqb _ 0 c.if-end-eq0.false) (c.saturating_add.ensures ∙ held_is _)
