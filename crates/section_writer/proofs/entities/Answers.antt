-- The writer is refused, the rows end, or others follow.
use native.Mathlib.Omega.{arith}
use Rattle.std.proofs.lemmas.Bool.{iff_false}
use Rattle.section_writer.proofs.Loop.{Taken, none_taken, refused_there, last_there, one_more, none_left}
use Rattle.section_writer.proofs.entities.Goals as goal
use Rattle.section_writer.proofs.entities.Goals.{then-is_refused-via-then-is_refused, then-is_refused-via-else-is_refused+then-rows-place}

pub loop-init : goal.loop-init
loop-init c = none_taken

taken : (c : goal.Joined-then-is_refused) → Taken c.args.rows c.args.w.now c.entity.new.p
taken c =
    elim c.then-is_refused.branch [
      | then-is_refused-via-then-is_refused w ↦
          refused_there c.loop.invariant c.loop-test.true c.entry_length.ensures.lent c.entry_length.ensures.state c.entity.ensures (c.is_refused.ensures.0 w.if-is_refused.true)
      | then-is_refused-via-else-is_refused+then-rows-place w ↦
          last_there c.loop.invariant c.loop-test.true c.entry_length.ensures.lent c.entry_length.ensures.state c.entity.ensures c.requires (iff_false c.is_refused.ensures w.if-is_refused.false)
          (omega (arith, w.place.ensures, w.if-rows-place.true))
    ]

pub returns-then-is_refused-clause-lent : goal.returns-then-is_refused-clause-lent
returns-then-is_refused-clause-lent c = (taken c).lent

pub returns-then-is_refused-clause-state : goal.returns-then-is_refused-clause-state
returns-then-is_refused-clause-state c = (taken c).state

pub loop-preserved : goal.loop-preserved
loop-preserved c =
    one_more c.loop.invariant c.loop-test.true c.entry_length.ensures.lent c.entry_length.ensures.state c.entity.ensures c.requires (iff_false c.is_refused.ensures c.if-is_refused.false)
    (omega (arith, c.place.ensures, c.if-rows-place.false))

pub returns-clause-lent : goal.returns-clause-lent
returns-clause-lent c = (none_left {u = c.stop.new.self} c.loop.invariant c.loop-test.false c.stop.ensures.lent c.stop.ensures.state).lent

pub returns-clause-state : goal.returns-clause-state
returns-clause-state c = (none_left {u = c.stop.new.self} c.loop.invariant c.loop-test.false c.stop.ensures.lent c.stop.ensures.state).state
