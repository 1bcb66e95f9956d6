-- Refused, too many bytes, too few left, or enough.
use native.Mathlib.Omega.{arith}
use mathlib.Core.Path.{refl}
use Rattle.leaf.specs.Reader.{cursor_of, state_of}
use Rattle.leaf.proofs.Leaves.{refused_stays, long_stops, goes_on}
use Rattle.leaf.proofs.Reader.left.Goals as goal
use Rattle.leaf.proofs.Reader.left.Goals.{then-self-via-then-self, then-self-via-else-self+then-self-n}

pub returns-then-self-ne0 : goal.returns-then-self-ne0
returns-then-self-ne0 c =
    let p = c.args.self.now in
    let h = c.if-self-ne0.true in
    record { lent = refl; state = refused_stays p.s.now p.t.now (cursor_of p) _ h; short = λ z. absurd (h z) }

pub returns-then-self-gt-LIMIT : goal.returns-then-self-gt-LIMIT
returns-then-self-gt-LIMIT c =
    let p = c.args.self.now in
    let z = c.if-self-ne0.false in
    record { lent = c.stop.ensures.lent; state = long_stops p.s.now p.t.now (cursor_of p) _ z c.if-self-gt-LIMIT.true (state_of c.stop.new.self) c.stop.ensures.state; short = λ z k. omega arith }

pub returns-then-self : goal.returns-then-self
returns-then-self c =
    let p = c.args.self.now in
    let z = c.if-self-ne0.false in
    record {
      lent = c.stop-then-self.ensures.lent;
      state = goes_on p.s.now p.t.now (cursor_of p) _ z c.if-self-gt-LIMIT.false (state_of c.stop-then-self.new.self) c.stop-then-self.ensures.state;
      short = λ z k. elim c.then-self.branch [ then-self-via-then-self w ↦ omega arith | then-self-via-else-self+then-self-n w ↦ omega arith ];
    }
