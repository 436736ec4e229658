use Rattle.placement.proofs.Order.{apart_all}
use Rattle.placement.proofs.laws.keeps_apart.Goals as goal

pub returns : goal.returns
returns c = apart_all
