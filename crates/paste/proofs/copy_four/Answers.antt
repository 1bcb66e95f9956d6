-- The four bytes read are stored.
use mathlib.Core.Path.{refl}
use Rattle.paste.proofs.Copied.{part_copied}
use Rattle.paste.proofs.copy_four.Goals as goal

pub returns : goal.returns
returns c = part_copied _ _ _ _ 4 _ refl c.four_at.ensures c.put_four.ensures
