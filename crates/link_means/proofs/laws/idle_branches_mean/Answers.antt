use Rattle.link_means.proofs.IdleBranches.{idle_branches_mean}
use Rattle.link_means.proofs.laws.idle_branches_mean.Goals as goal

pub returns : goal.returns
returns c = idle_branches_mean
