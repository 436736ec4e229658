use Rattle.placement.proofs.Placing.{placed_once, fails_once, placed_or_fails}
use Rattle.placement.proofs.laws.one_placing.Goals as goal

pub returns-clause-placed_once : goal.returns-clause-placed_once
returns-clause-placed_once c = placed_once

pub returns-clause-fails_once : goal.returns-clause-fails_once
returns-clause-fails_once c = fails_once

pub returns-clause-not_both : goal.returns-clause-not_both
returns-clause-not_both c = placed_or_fails
