-- What holds the byte, in numbers.
use Rattle.directory.specs.Holder.{holder_of}
use Rattle.pgrxsc.proofs.Numbers.{holder_told_lem}
use Rattle.pgrxsc.proofs.pgrxsc_entity_at.Goals as goal

pub returns-clause-exact_holder : goal.returns-clause-exact_holder
returns-clause-exact_holder c = holder_told_lem c.args.bytes.now c.args.position _ (holder_of c.entity_at.result) c.holder_numbers.ensures c.entity_at.ensures.exact_holder
