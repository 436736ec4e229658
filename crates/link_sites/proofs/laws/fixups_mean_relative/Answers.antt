use Rattle.link_sites.proofs.Calls.{fixups_mean_relative}
use Rattle.link_sites.proofs.laws.fixups_mean_relative.Goals as goal

pub returns : goal.returns
returns c = fixups_mean_relative
