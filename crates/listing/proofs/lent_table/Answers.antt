-- The table is the lent one, and its length is known.
use Prim.Native.Nat.{ℕ, ◌*◌}
use mathlib.Core.Path.{refl}
use lib.ListN.{length-replicate}
use Rattle.layout.specs.Written.{row_width}
use Rattle.listing.specs.Listing.{lent_rows, lent_table}
use Rattle.listing.proofs.lent_table.Goals as goal

pub returns : goal.returns
unfolding lent_table
returns c = (refl, length-replicate {A = ℕ} (row_width * lent_rows) 0)
