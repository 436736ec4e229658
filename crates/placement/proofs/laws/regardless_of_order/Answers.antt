use Rattle.placement.proofs.Order.{placed_same, fails_same}
use Rattle.placement.proofs.laws.regardless_of_order.Goals as goal

pub returns-clause-placed : goal.returns-clause-placed
returns-clause-placed c = placed_same

pub returns-clause-fails : goal.returns-clause-fails
returns-clause-fails c = fails_same
