use Rattle.run_turn.proofs.StopsKeep.{stops_keep}
use Rattle.run_turn.proofs.laws.stops_keep.Goals as goal

pub returns : goal.returns
returns c = stops_keep
