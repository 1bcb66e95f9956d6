-- The cases of the code are those of the listing.
use Rattle.std.proofs.Common.{arith, refl, ◌∙◌, rules}
use Rattle.listing.proofs.Lines.{long_listing, read_listing, refused_made, rows_there}
use Rattle.listing.proofs.listing.Goals as goal

pub returns-then-input-gt-MOST_BYTES : goal.returns-then-input-gt-MOST_BYTES
returns-then-input-gt-MOST_BYTES c = rw (long_listing c.args.input.now (omega arith)) c.list_long.ensures

pub list_rows-requires : goal.list_rows-requires
list_rows-requires c = (search rules, rows_there c.args.input.now _ _ c.in-Ok.ensures.demand3 c.decode_entities.auto.table refl)

pub returns-in-Ok : goal.returns-in-Ok
returns-in-Ok c =
    rw (read_listing c.args.input.now _ (omega arith) (c.in-Ok.ensures.table_after ∙ rw c.lent_table-table.ensures.0)) c.list_rows.ensures

pub returns-in-Err : goal.returns-in-Err
returns-in-Err c =
    let e = read_listing c.args.input.now _ (omega arith) (c.in-Err.ensures.table_after ∙ rw c.lent_table-table.ensures.0) in
    rw (e ∙ refused_made _ _ _) c.list_refusal.ensures
