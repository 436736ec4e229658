use Rattle.call_laws.proofs.CallWalks.{calls_arrive}
use Rattle.call_laws.proofs.turns.calls_arrive.Goals as goal

pub returns : goal.returns
returns c = calls_arrive
