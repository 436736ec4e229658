use Rattle.call_laws.proofs.CallWalks.{calls_go_on}
use Rattle.call_laws.proofs.turns.calls_go_on.Goals as goal

pub returns : goal.returns
returns c = calls_go_on
