-- The part where it is.
use mathlib.Core.Path.{ap, ◌∙◌}
use Rattle.place.specs.Place.{part_of, number_in, place_in}
use Rattle.elf.proofs.find_section.Goals as goal

pub returns : goal.returns
returns c =
    let args = c.args in
    let e = c.place_section.ensures.result_value in
    let p = c.part_at.ensures in
    record { result_value = p.result_value ∙ ap (part_of args.file.now) e; number_after = p.number_after ∙ ap number_in e; place_after = p.place_after ∙ ap place_in e; case = rw (← e) p.case }
