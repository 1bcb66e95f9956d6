-- Some items are passed over; the others are still to come.
use Rattle.std.specs.Borrow.{MutBor}
use Rattle.layout.specs.Layout.{Layout}
use Rattle.pass.specs.Pass.{Runs}
use Rattle.pass.proofs.Passes.{Remains}
use Rattle.pass.proofs.times.Given as goal

abbrev pub invariant-loop : goal.invariant-loop
invariant-loop g l =
    (L : Layout) → ((q r : MutBor g.row.P.Denot) → goal.F-post g l.item q tt r → Runs g.P.Pass.meaning L q.now r.now)
    → Remains g.P.Pass.meaning l.count l.counter L l.initial.p l.p
