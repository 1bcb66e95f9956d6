-- No full_path; or the kind and the place, which is below the limit.
use native.Mathlib.Omega.{arith}
use mathlib.Core.Path.{refl}
use Rattle.paths.proofs.Walk.{path_none, mark_there}
use Rattle.paths.proofs.path_mark.Goals as goal

pub returns-in_err-full_path : goal.returns-in_err-full_path
returns-in_err-full_path c = rw c.from_residual.ensures (path_none c.args.s.now c.args.payload c.in_err-full_path.ensures)

pub returns : goal.returns
returns c = mark_there c.args.s.now c.args.payload c.in_ok-full_path.field-0 _ c.in_ok-full_path.ensures c.requires refl (omega (arith, c.type_inv.s c.args.payload)) c.new.result c.new.ensures
