-- Header after header, from 1 up to the first that has the name.
use Rattle.std.proofs.Common.{ℕ, ◌+◌, ◌*◌, ◌-◌, sym, ap, ◌∙◌, arith}
use Rattle.elf.specs.Elf.{e_shnum, of_file}
use Rattle.elf.specs.Find.{header_section}
use Rattle.elf.proofs.Steps.{named_in, search_end, search_here, search_on}
use Rattle.elf.proofs.first_named.Goals as goal

pub returns-then-is_named_at : goal.returns-then-is_named_at
returns-then-is_named_at c =
    let args = c.args in
    let pre = c.requires in
    let file = args.file.now in
    let name = args.name.now in
    let loop = c.loop-i in
    let headers = c.xword-headers in
    let test = c.is_named_at in
    let e = named_in file name args.table.now headers.result loop.i c.word.result test.result pre.names headers.ensures c.word.ensures.0 test.ensures in
    c.header_section.ensures
    ∙ ap (λ (h : ℕ). header_section file (h + 64 * loop.i)) headers.ensures
    ∙ sym (loop.invariant ∙ search_here file name (of_file file e_shnum) loop.i (omega arith) (sym e ∙ c.if-is_named_at.true))

pub loop-i-preserved : goal.loop-i-preserved
loop-i-preserved c =
    let args = c.args in
    let pre = c.requires in
    let file = args.file.now in
    let name = args.name.now in
    let loop = c.loop-i in
    let headers = c.xword-headers in
    let e = named_in file name args.table.now headers.result loop.i c.word.result c.is_named_at.result pre.names headers.ensures c.word.ensures.0 c.is_named_at.ensures in
    loop.invariant ∙ search_on file name (of_file file e_shnum) loop.i (omega arith) (sym e ∙ c.if-is_named_at.false)

pub returns : goal.returns
returns c =
    let args = c.args in
    let file = args.file.now in
    let loop = c.loop-i in
    c.no_part.ensures ∙ sym (loop.invariant ∙ search_end file args.name.now (of_file file e_shnum - loop.i) loop.i (omega arith))
