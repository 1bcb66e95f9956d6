-- x is the code of the state after the blocks so far, whether a block was walked or skipped.
use Rattle.std.proofs.Common.{◌*◌, take}
use Rattle.text.specs.Private.{Reaches}
use Rattle.text.proofs.walk_over.Given as goal

abbrev pub invariant-loop-block : goal.invariant-loop-block
invariant-loop-block l = Reaches (take (l.block-index * 64) l.s) l.q l.x
