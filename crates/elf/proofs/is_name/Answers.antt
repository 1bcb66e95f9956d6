-- Some bytes, of which none is zero.
use Rattle.std.proofs.Common.{arith}
use Rattle.std.proofs.lemmas.Bool.Decides.{nat_tests}
use Rattle.elf.specs.Find.{is_name}
use Rattle.elf.proofs.Names.{zero_any}
use Rattle.elf.proofs.is_name.Goals as goal

pub returns-then-not-is_empty : goal.returns-then-not-is_empty
unfolding is_name
returns-then-not-is_empty c =
    let name = c.args.name.now in
    let z = zero_any name in
    rw (c.contains.ensures.value, z) (grind (arith, nat_tests))
