use Rattle.link_loads.proofs.Plans.{plans_make_modules}
use Rattle.link_loads.proofs.laws.plans_make_modules.Goals as goal

pub returns : goal.returns
returns c = plans_make_modules
