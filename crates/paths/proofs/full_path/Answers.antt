-- Each kind with a full_path, and the rest.
use native.Mathlib.Omega.{arith}
use mathlib.Core.Path.{refl, sym, ap, ◌∙◌}
use borrow.Author.Rules.{rules}
use Rattle.std.specs.Prelude.{Some}
use Rattle.paths.proofs.Fields.{place_in, place_of_two, place_none}
use Rattle.paths.proofs.full_path.Goals as goal

pub returns-in-2 : goal.returns-in-2
returns-in-2 c = ap Some c.after_two_texts.ensures.0 ∙ sym (place_in c.args.s.now c.args.payload 2 (sym c.from.ensures ∙ c.in-2.is))

pub returns-in-3 : goal.returns-in-3
returns-in-3 c = ap Some (rw c.after_two_texts-in-3.ensures.0 at c.after_text.ensures.0) ∙ sym (place_in c.args.s.now c.args.payload 3 (sym c.from.ensures ∙ c.in-3.is))

pub returns-in-4 : goal.returns-in-4
returns-in-4 c = ap Some (rw c.after_name_file_line-in-4.ensures.0 at c.after_text-in-4.ensures.0) ∙ sym (place_of_two c.args.s.now c.args.payload c.from.result 4 _ c.from.ensures (omega arith) (omega arith) refl refl)

pub returns-in-6 : goal.returns-in-6
returns-in-6 c = ap Some c.after_name_file_line-in-6.ensures.0 ∙ sym (place_of_two c.args.s.now c.args.payload c.from.result 6 _ c.from.ensures (omega arith) (omega arith) refl refl)

pub returns-in-8 : goal.returns-in-8
returns-in-8 c = sym (place_in c.args.s.now c.args.payload 8 (sym c.from.ensures ∙ c.in-8.is))

pub returns-in-9 : goal.returns-in-9
returns-in-9 c = ap Some (rw c.after_name_file_line.ensures.0 at c.after_text-in-9.ensures.0) ∙ sym (place_in c.args.s.now c.args.payload 9 (sym c.from.ensures ∙ c.in-9.is))

pub returns-in_default : goal.returns-in_default
returns-in_default c = sym (place_none c.args.s.now c.args.payload c.from.result c.from.ensures (search rules))

pub returns-in_default-2 : goal.returns-in_default-2
returns-in_default-2 c = sym (place_none c.args.s.now c.args.payload c.from.result c.from.ensures (search rules))
