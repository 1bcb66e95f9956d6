-- Not such a file, no tables, no name, or the first header that has it.
use Rattle.std.proofs.Common.{sym, ◌∙◌, arith}
use Rattle.std.proofs.lemmas.Grind.{common_steps}
use Rattle.elf.specs.Find.{find_section}
use Rattle.elf.proofs.Exact.{exact_told}
use Rattle.elf.proofs.Steps.{tables_sound}
use Rattle.elf.proofs.place_section.Goals as goal

pub returns-then-not-is_elf64-clause-exact_finding : goal.returns-then-not-is_elf64-clause-exact_finding
unfolding find_section
returns-then-not-is_elf64-clause-exact_finding c = exact_told c.args.file.now c.args.name.now _ (grind (arith, common_steps))

pub returns-then-not-has_tables-clause-exact_finding : goal.returns-then-not-has_tables-clause-exact_finding
unfolding find_section
returns-then-not-has_tables-clause-exact_finding c = exact_told c.args.file.now c.args.name.now _ (grind (arith, common_steps))

pub returns-then-not-is_name-clause-exact_finding : goal.returns-then-not-is_name-clause-exact_finding
unfolding find_section
returns-then-not-is_name-clause-exact_finding c = exact_told c.args.file.now c.args.name.now _ (grind (arith, common_steps))

pub returns-clause-exact_finding : goal.returns-clause-exact_finding
unfolding find_section
returns-clause-exact_finding c = exact_told c.args.file.now c.args.name.now _ (grind (arith, common_steps))

pub name_table-requires-clause-tables : goal.name_table-requires-clause-tables
name_table-requires-clause-tables c = tables_sound c.args.file.now (sym c.has_tables.ensures ∙ c.if-not-has_tables.false)

pub first_named-requires-clause-tables : goal.first_named-requires-clause-tables
first_named-requires-clause-tables c = tables_sound c.args.file.now (sym c.has_tables.ensures ∙ c.if-not-has_tables.false)
