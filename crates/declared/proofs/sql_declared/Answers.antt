-- Each known kind, and the rest.
use native.Mathlib.Omega.{arith}
use mathlib.Core.Path.{refl}
use Rattle.layout.specs.Layout.{text}
use Rattle.layout.specs.Entities.{SqlDeclared, sql_declareds}
use Rattle.pass.proofs.Passes.{nothing_in, after_in, after_of_two, after_wrong}
use Rattle.declared.proofs.sql_declared.Goals as goal

pub returns-in-3 : goal.returns-in-3
unfolding SqlDeclared
returns-in-3 g c = after_in sql_declareds c.u8-kind.ensures.runs c.u8-kind.ensures.value text c.str.ensures 3 c.in-3.is refl nothing_in

pub returns-in-1-to-2 : goal.returns-in-1-to-2
unfolding SqlDeclared
returns-in-1-to-2 g c =
    after_of_two sql_declareds c.u8-kind.ensures.runs c.u8-kind.ensures.value text c.str.ensures 1 (omega arith) (omega arith) refl refl c.declared_type.ensures c.declared_type.ensures

pub returns-in_default : goal.returns-in_default
unfolding SqlDeclared
returns-in_default g c = after_wrong sql_declareds c.u8-kind.ensures.runs c.u8-kind.ensures.value text c.str.ensures c.place-begin.ensures (omega arith) refl c.refuse.ensures
