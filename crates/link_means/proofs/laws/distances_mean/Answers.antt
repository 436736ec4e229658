use Rattle.link_means.proofs.Distances.{distances_mean}
use Rattle.link_means.proofs.laws.distances_mean.Goals as goal

pub returns : goal.returns
returns c = distances_mean
