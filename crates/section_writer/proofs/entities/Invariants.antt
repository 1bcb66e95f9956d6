-- Some entities are taken; the others are still to come.
use Rattle.section_writer.proofs.Loop.{Remains}
use Rattle.section_writer.proofs.entities.Given as goal

abbrev pub invariant-loop : goal.invariant-loop
invariant-loop l = Remains l.rows l.counter l.initial.w l.w
