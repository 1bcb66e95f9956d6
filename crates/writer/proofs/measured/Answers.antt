-- A pass over the rows finds the length.
use mathlib.Core.Path.{ap, ◌∙◌}
use mathlib.Core.List.{List}
use Prim.Native.Nat.{ℕ}
use Rattle.writing.specs.Run.{consume, closing}
use Rattle.writing.proofs.Passes.{first_pass}
use Rattle.entry_writer.specs.EntryWriter.{state_of}
use Rattle.writer.proofs.measured.Goals as goal

pub returns : goal.returns
returns g c L f =
    let run = f _ _ c.part.ensures in
    let lent = c.new-w.ensures.lent in
    first_pass L c.args.rows.now c.args.text.now _ _ _ c.new-w.ensures.state
    (run.state ∙ ap (λ (x : List ℕ × List ℕ). consume L x.0 x.1 (state_of c.new-w.result)) lent)
    (c.finish.ensures ∙ ap (λ (x : List ℕ × List ℕ). closing x.0 (state_of c.part.new.arg2)) (run.lent ∙ lent))
