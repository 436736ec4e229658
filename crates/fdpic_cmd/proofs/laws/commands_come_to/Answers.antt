use Rattle.fdpic_cmd.proofs.CommandOutcomes.{commands_come_to_lem}
use Rattle.fdpic_cmd.proofs.laws.commands_come_to.Goals as goal

pub returns : goal.returns
returns c = commands_come_to_lem
