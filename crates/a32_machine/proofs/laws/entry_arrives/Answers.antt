use Rattle.a32_machine.proofs.Arrivals.{entry_arrives}
use Rattle.a32_machine.proofs.laws.entry_arrives.Goals as goal

pub returns : goal.returns
returns c = entry_arrives
