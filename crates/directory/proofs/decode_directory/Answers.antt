-- The list that is filled in is the directory's, and the directory meets its contract.
use Rattle.std.proofs.Common.{rules, ◌≡◌, arith, refl}
use Rattle.std.specs.Prelude.{Ok, Err}
use Rattle.directory.specs.Directory.{listed_of, directory}
use Rattle.directory.proofs.Listed.{listed}
use Rattle.directory.proofs.Exact.{directory_exact}
use Rattle.directory.proofs.decode_directory.Goals as goal

pub returns-in_err-counts : goal.returns-in_err-counts
returns-in_err-counts c =
    let section = c.args.section.now in
    let table = c.args.table.now in
    let list = c.args.records.now in
    let refused = Err c.in_err-counts.field-0.0 in
    let after = c.read_for.new.table in
    let e : listed_of refused after list ≡ directory section table list = listed section table list after refused c.in_err-counts.ensures.0 list refl in
    let told = (directory_exact section (λ i h. omega (arith, c.type_inv.section i)) table list (listed_of refused after list)).1 e in
    record { records_after = search (rules, e); exact_directory = search (rules, told) }

pub returns : goal.returns
returns c =
    let section = c.args.section.now in
    let table = c.args.table.now in
    let list = c.args.records.now in
    let answer = Ok c.in_ok-counts.counts in
    let read = c.read_for.new.table in
    let after = c.fill.new.records in
    let e : listed_of answer read after ≡ directory section table list = listed section table list read answer c.in_ok-counts.ensures.0 after c.fill.ensures in
    record { records_after = e; exact_directory = (directory_exact section (λ i h. omega (arith, c.type_inv.section i)) table list (listed_of answer read after)).1 e }
