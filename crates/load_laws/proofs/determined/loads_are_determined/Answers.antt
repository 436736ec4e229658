use Rattle.load_laws.proofs.SameLoads.{loads_determined}
use Rattle.load_laws.proofs.determined.loads_are_determined.Goals as goal

pub returns : goal.returns
returns c = loads_determined
