use Rattle.a32_machine.proofs.Depending.{step_of-alike}
use Rattle.a32_machine.proofs.laws.depends_on.Goals as goal

pub returns : goal.returns
returns c = step_of-alike
