-- The answer of the measuring, in numbers.
use Rattle.writing.specs.Refusals.{ExactLength}
use Rattle.section_writer.specs.Form.{section}
use Rattle.length.specs.Length.{length_of}
use Rattle.pgrxsc.proofs.Numbers.{length_told_lem}
use Rattle.pgrxsc.proofs.pgrxsc_section_len.Goals as goal

pub returns-clause-exact_length : goal.returns-clause-exact_length
returns-clause-exact_length c =
    let a = c.args in
    let e = c.entities_len.ensures.exact_length in
    length_told_lem (ExactLength section a.rows.now a.text.now) _ (length_of c.entities_len.result) c.length_numbers.ensures e.refuses e
