-- The part where the name is.
use Rattle.std.proofs.Common.{ap, ◌∙◌}
use Rattle.place.specs.Place.{part_of}
use Rattle.parts.proofs.SqlName.{name_part}
use Rattle.parts.proofs.sql_name.Goals as goal

pub returns-clause-result_value : goal.returns-clause-result_value
returns-clause-result_value c =
    let s = c.args.section.now in
    c.part_at.ensures.result_value ∙ ap (part_of s) c.place_sql_name.ensures ∙ name_part s c.args.row
