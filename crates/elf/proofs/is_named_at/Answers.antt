-- No room for the name, another byte after it, or the bytes before that one.
use Rattle.std.proofs.Common.{sym, ◌∙◌, ne_eqb}
use Rattle.elf.proofs.Names.{named_short, named_other, named_end}
use Rattle.elf.proofs.is_named_at.Goals as goal

pub returns-then-rest-name : goal.returns-then-rest-name
returns-then-rest-name c =
    let args = c.args in
    sym (named_short args.table.now args.offset args.name.now _ c.in-Some.ensures.lookup.0.2 c.if-rest-name.true)

pub returns-then-rest-name-eq0 : goal.returns-then-rest-name-eq0
returns-then-rest-name-eq0 c =
    let args = c.args in
    c.eq.ensures ∙ sym (named_end args.table.now args.offset args.name.now _ c.in-Some.ensures.lookup.0.2 c.if-rest-name.false c.if-rest-name-eq0.true)

pub returns-else-rest-name-eq0 : goal.returns-else-rest-name-eq0
returns-else-rest-name-eq0 c =
    let args = c.args in
    let other = c.if-rest-name-eq0.false in
    ne_eqb _ 0 other ∙ sym (named_other args.table.now args.offset args.name.now _ c.in-Some.ensures.lookup.0.2 c.if-rest-name.false other)
