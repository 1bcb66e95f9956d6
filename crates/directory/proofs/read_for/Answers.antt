-- Accepted with room enough, or refused: by 21, or by the plain reading.
use Rattle.std.proofs.Common.{arith}
use Rattle.std.specs.Prelude.{Ok, Err}
use Rattle.directory.proofs.Listed.{ready, room_enough, room_short}
use Rattle.directory.proofs.read_for.Goals as goal

pub returns-in_err-counts : goal.returns-in_err-counts
returns-in_err-counts c =
    let section = c.args.section.now in
    let refused = Err (c.in_err-counts.field-0.0) in
    let told = room_enough section c.args.table.now c.decode_entities.new.table c.args.room refused c.in_err-counts.ensures.table_after (omega arith) in
    search (Rattle.std.proofs.Common.rules, told, ready section (λ i h. omega (arith, c.type_inv.section i)) c.args.table.now c.args.room c.decode_entities.new.table refused told)

pub returns-then-room-counts : goal.returns-then-room-counts
returns-then-room-counts c =
    let section = c.args.section.now in
    let told = room_short section c.args.table.now _ c.args.room (Ok c.in_ok-counts.counts) c.in_ok-counts.ensures.table_after c.if-room-counts.true _ c.refuse.ensures in
    (told, ready section (λ i h. omega (arith, c.type_inv.section i)) c.args.table.now c.args.room c.refuse.new.table c.refuse.result told)

pub returns : goal.returns
returns c =
    let section = c.args.section.now in
    let after = c.decode_entities.new.table in
    let answer = Ok c.in_ok-counts.counts in
    let told = room_enough section c.args.table.now after c.args.room answer c.in_ok-counts.ensures.table_after c.if-room-counts.false in
    (told, ready section (λ i h. omega (arith, c.type_inv.section i)) c.args.table.now c.args.room after answer told)
