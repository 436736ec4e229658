use Rattle.link_model.proofs.Needed.{needs_lie_apart}
use Rattle.link_model.proofs.laws.needs_lie_apart.Goals as goal

pub returns : goal.returns
returns c = needs_lie_apart
