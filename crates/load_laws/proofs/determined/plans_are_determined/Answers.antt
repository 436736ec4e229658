use Rattle.load_laws.proofs.PlansDetermined.{plans_determined}
use Rattle.load_laws.proofs.determined.plans_are_determined.Goals as goal

pub returns : goal.returns
returns c = plans_determined
