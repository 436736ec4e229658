use Rattle.link_means.proofs.Whole.{linked_means}
use Rattle.link_means.proofs.laws.linked_means.Goals as goal

pub returns : goal.returns
returns c = linked_means
