use Rattle.load_image.proofs.ModuleItems.{mapped}
use Rattle.load_image.proofs.segments.load_map.Goals as goal

pub returns-clause-mapped : goal.returns-clause-mapped
returns-clause-mapped c = rw c.in_ok-load_map.ensures (mapped _ _ c.requires)
