-- Header after header, from 1 up to the first that has the name.
use Rattle.std.proofs.Common.{◌-◌, ◌≡◌}
use Rattle.elf.specs.Elf.{e_shnum, of_file}
use Rattle.elf.specs.Find.{first_named}
use Rattle.elf.proofs.first_named.Given as goal

abbrev pub invariant-loop-i : goal.invariant-loop-i
invariant-loop-i l = first_named l.file l.name (of_file l.file e_shnum - 1) 1 ≡ first_named l.file l.name (of_file l.file e_shnum - l.i) l.i
