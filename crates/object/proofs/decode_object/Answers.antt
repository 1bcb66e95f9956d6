-- Refused, or the reading of the part.
use Rattle.object.proofs.Object.{refusal_read, part_read}
use Rattle.object.proofs.decode_object.Goals as goal

pub returns-in-Err : goal.returns-in-Err
returns-in-Err c =
    let a = c.args in
    let f = c.in-Err.ensures in
    let r = refusal_read a.file.now a.name.now _ _ f.result_value a.table.now _ f.exact_finding c.refuse.ensures in
    record { table_after = r.0; exact_object = r.1 }

pub returns-in-Ok : goal.returns-in-Ok
returns-in-Ok c =
    let a = c.args in
    let f = c.in-Ok.ensures in
    let d = c.decode_entities.ensures in
    let r = part_read a.file.now a.name.now _ _ f.result_value _ c.of.ensures a.table.now _ f.exact_finding (d.table_after, d.demand3) in
    record { table_after = r.0; exact_object = r.1 }
