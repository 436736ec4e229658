use Rattle.link_means.proofs.Addresses.{settled_addresses_mean}
use Rattle.link_means.proofs.laws.settled_addresses_mean.Goals as goal

pub returns : goal.returns
returns c = settled_addresses_mean
