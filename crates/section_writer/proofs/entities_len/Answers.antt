-- A pass over the rows finds the length.
use Prim.Native.Nat.{ℕ}
use mathlib.Core.List.{List}
use mathlib.Core.Path.{sym, ap, ◌∙◌}
use Rattle.layout.specs.Answers.{whole_rows}
use Rattle.writing.specs.Run.{closing}
use Rattle.entry_writer.specs.EntryWriter.{state_of}
use Rattle.section_writer.specs.Private.{consume_entities}
use Rattle.section_writer.proofs.Passes.{first_pass}
use Rattle.section_writer.proofs.entities_len.Goals as goal

pub entities-requires : goal.entities-requires
entities-requires c = ap (λ (x : List ℕ × List ℕ). whole_rows x.0) (sym c.new-w.ensures.lent)

pub returns : goal.returns
returns c =
    let rows = c.args.rows.now in
    let run = c.entities.ensures in
    let lent = c.new-w.ensures.lent in
    let told = first_pass rows c.args.text.now _ _ _ c.new-w.ensures.state
    (run.state ∙ ap (λ (x : List ℕ × List ℕ). consume_entities x.0 x.1 (whole_rows rows) (state_of c.new-w.result)) lent)
    (c.finish.ensures ∙ ap (λ (x : List ℕ × List ℕ). closing x.0 (state_of c.entities.new.w)) (run.lent ∙ lent)) in
    record { result_value = told.0; exact_length = told.1 }
