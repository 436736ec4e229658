use Rattle.link_model.proofs.Sited.{sites_lie_apart}
use Rattle.link_model.proofs.laws.sites_lie_apart.Goals as goal

pub returns : goal.returns
returns c = sites_lie_apart
