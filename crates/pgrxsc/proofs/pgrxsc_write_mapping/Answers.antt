-- The answer of the writing, in numbers.
use Rattle.layout.specs.Entities.{SqlMapping}
use Rattle.writing.specs.Refusals.{alone, ExactWriting}
use Rattle.length.specs.Length.{length_of}
use Rattle.pgrxsc.proofs.Numbers.{length_told_lem}
use Rattle.pgrxsc.proofs.pgrxsc_write_mapping.Goals as goal

pub returns-clause-exact_writing : goal.returns-clause-exact_writing
returns-clause-exact_writing c =
    let a = c.args in
    let w = c.encode_sql_mapping in
    let e = w.ensures.exact_writing in
    length_told_lem (λ l. ExactWriting (alone SqlMapping) a.rows.now a.text.now a.dest.now l w.new.dest) _ (length_of w.result) c.length_numbers.ensures e.refuses e
