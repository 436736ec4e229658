use Rattle.load_removal.proofs.RemovalsKeep.{removals_keep_lem}
use Rattle.load_removal.proofs.laws.removals_keep_consistent.Goals as goal

pub returns : goal.returns
returns c = removals_keep_lem
