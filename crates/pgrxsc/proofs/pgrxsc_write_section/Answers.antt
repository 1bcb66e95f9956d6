-- The answer of the writing, in numbers.
use Rattle.writing.specs.Refusals.{ExactWriting}
use Rattle.section_writer.specs.Form.{section}
use Rattle.length.specs.Length.{length_of}
use Rattle.pgrxsc.proofs.Numbers.{length_told_lem}
use Rattle.pgrxsc.proofs.pgrxsc_write_section.Goals as goal

pub returns-clause-exact_writing : goal.returns-clause-exact_writing
returns-clause-exact_writing c =
    let a = c.args in
    let w = c.encode_entities in
    let e = w.ensures.exact_writing in
    length_told_lem (λ l. ExactWriting section a.rows.now a.text.now a.dest.now l w.new.dest) _ (length_of w.result) c.length_numbers.ensures e.refuses e
