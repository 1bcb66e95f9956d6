-- Each known tag, and the rest.
use native.Mathlib.Omega.{arith}
use mathlib.Core.Path.{refl}
use lib.ListN.{drop}
use Rattle.layout.specs.Entities.{ExternArg, extern_args}
use Rattle.pass.proofs.Passes.{tags_bare, tags_in, tags_of_two, tags_wrong}
use Rattle.attribute.proofs.extern_arg.Goals.{in_default-via-then-this-lt1, in_default-via-else-this-lt1+else-this-lt13+else-this-lt15+else-this-lt18}
use Rattle.attribute.proofs.extern_arg.Goals as goal

pub returns-in-1-to-12 : goal.returns-in-1-to-12
unfolding ExternArg
returns-in-1-to-12 g c = tags_bare 1 12 (drop 12 extern_args) c.u8.ensures.runs c.u8.ensures.value (omega arith) (omega arith)

pub returns-in-13-to-14 : goal.returns-in-13-to-14
unfolding ExternArg
returns-in-13-to-14 g c = tags_of_two extern_args c.u8.ensures.runs c.u8.ensures.value 13 (omega arith) (omega arith) refl refl c.str.ensures c.str.ensures

pub returns-in-15 : goal.returns-in-15
unfolding ExternArg
returns-in-15 g c = tags_in extern_args c.u8.ensures.runs c.u8.ensures.value 15 c.in-15.is refl c.positioning_ref.ensures

pub returns-in-16-to-17 : goal.returns-in-16-to-17
unfolding ExternArg
returns-in-16-to-17 g c = tags_of_two extern_args c.u8.ensures.runs c.u8.ensures.value 16 (omega arith) (omega arith) refl refl c.str-in-16-to-17.ensures c.str-in-16-to-17.ensures

pub returns-in-18 : goal.returns-in-18
unfolding ExternArg
returns-in-18 g c = tags_in extern_args c.u8.ensures.runs c.u8.ensures.value 18 c.in-18.is refl c.positioning_ref_list.ensures

pub returns-in_default : goal.returns-in_default
unfolding ExternArg
returns-in_default g c =
    tags_wrong extern_args c.u8.ensures.runs c.u8.ensures.value c.place-begin.ensures
    (elim c.in_default.branch [
      | in_default-via-then-this-lt1 w ↦ omega arith
      | in_default-via-else-this-lt1+else-this-lt13+else-this-lt15+else-this-lt18 w ↦ omega arith
    ])
    refl c.refuse.ensures
