use Rattle.link_loads.proofs.Modules.{loaders_hold_modules}
use Rattle.link_loads.proofs.laws.loaders_hold_modules.Goals as goal

pub returns : goal.returns
returns c = loaders_hold_modules
