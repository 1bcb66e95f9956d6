-- The answer of the measuring, in numbers.
use Rattle.layout.specs.Entities.{Entity}
use Rattle.writing.specs.Refusals.{alone, ExactLength}
use Rattle.length.specs.Length.{length_of}
use Rattle.pgrxsc.proofs.Numbers.{length_told_lem}
use Rattle.pgrxsc.proofs.pgrxsc_payload_len.Goals as goal

pub returns-clause-exact_length : goal.returns-clause-exact_length
returns-clause-exact_length c =
    let a = c.args in
    let e = c.entity_len.ensures.exact_length in
    length_told_lem (ExactLength (alone Entity) a.rows.now a.text.now) _ (length_of c.entity_len.result) c.length_numbers.ensures e.refuses e
