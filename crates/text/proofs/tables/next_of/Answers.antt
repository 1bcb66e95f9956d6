-- The tables follow their rule, whose test is computed here: the class of the byte is one of the twelve, and its row leads on.
use Rattle.std.proofs.Common.{refl, arith}
use Rattle.text.specs.Walk.{step}
use Rattle.text.specs.Private.{Encodes}
use Rattle.text.specs.declared.tables.TheConstants.{CLASS, NEXT}
use Rattle.text.proofs.Codes.{turn}
use Rattle.text.proofs.Table.{right, encodes}
use Rattle.text.proofs.tables.next_of.Goals as goal

encoded : Encodes CLASS NEXT
unfolding right step
encoded = encodes CLASS NEXT refl

pub bounds-b-2 : goal.bounds-b-2
bounds-b-2 c = encoded.small c.args.b (omega arith)

pub returns : goal.returns
returns c = turn encoded c.args.x c.args.b (omega arith)
