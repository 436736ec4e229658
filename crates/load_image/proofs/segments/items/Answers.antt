use Rattle.std.proofs.Common.{arith}
use Rattle.load_image.proofs.ModuleItems.{length-items_of, items_owned, items_sized}
use Rattle.load_image.proofs.segments.items.Goals as goal

pub returns-clause-count : goal.returns-clause-count
returns-clause-count c = rw c.in_ok-items.ensures (length-items_of _ _ _)

pub returns-clause-owned : goal.returns-clause-owned
returns-clause-owned c = rw c.in_ok-items.ensures (items_owned _ _ _ (omega arith))

pub returns-clause-sizes : goal.returns-clause-sizes
returns-clause-sizes c = rw c.in_ok-items.ensures (items_sized _ _ _ c.requires.sized)
