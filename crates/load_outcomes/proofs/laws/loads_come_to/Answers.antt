use Rattle.load_outcomes.proofs.EachLoad.{loads_come_to_lem}
use Rattle.load_outcomes.proofs.laws.loads_come_to.Goals as goal

pub returns : goal.returns
returns c = loads_come_to_lem
