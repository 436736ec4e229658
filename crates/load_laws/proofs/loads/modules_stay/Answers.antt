use Rattle.load_laws.proofs.ModulesAfter.{modules_stay_lem}
use Rattle.load_laws.proofs.loads.modules_stay.Goals as goal

pub returns : goal.returns
returns c = modules_stay_lem
