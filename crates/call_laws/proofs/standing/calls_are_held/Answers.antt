use Rattle.call_laws.proofs.ClearEntries.{calls_are_held_lem}
use Rattle.call_laws.proofs.standing.calls_are_held.Goals as goal

pub returns : goal.returns
returns c = calls_are_held_lem
