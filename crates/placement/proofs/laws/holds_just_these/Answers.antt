use Rattle.placement.proofs.Order.{same_all}
use Rattle.placement.proofs.laws.holds_just_these.Goals as goal

pub returns : goal.returns
returns c = same_all
