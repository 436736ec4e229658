use Rattle.run_laws.proofs.RunsComeTo.{runs_come_to_lem}
use Rattle.run_laws.proofs.laws.runs_come_to.Goals as goal

pub returns : goal.returns
returns c = runs_come_to_lem
