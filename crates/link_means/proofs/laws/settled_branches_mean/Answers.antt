use Rattle.link_means.proofs.Branches.{settled_branches_mean}
use Rattle.link_means.proofs.laws.settled_branches_mean.Goals as goal

pub returns : goal.returns
returns c = settled_branches_mean
