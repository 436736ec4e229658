use Rattle.link_model.proofs.Placed.{sections_lie_apart}
use Rattle.link_model.proofs.laws.sections_lie_apart.Goals as goal

pub returns : goal.returns
returns c = sections_lie_apart
