use Rattle.call_laws.proofs.BegunCalls.{begun_calls_hold_lem}
use Rattle.call_laws.proofs.begins.begun_calls_hold.Goals as goal

pub returns : goal.returns
returns c = begun_calls_hold_lem
