use Rattle.call_laws.proofs.TurnStages.{turns_keep}
use Rattle.call_laws.proofs.turns.turns_keep.Goals as goal

pub returns : goal.returns
returns c = turns_keep
