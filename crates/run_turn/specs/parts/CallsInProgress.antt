-- Calls that have begun and not arrived.
use Rattle.std.specs.Prelude.{◌<◌, ◌≤◌, List, Option, Some, None, All, AllPairs}
use Rattle.run_model.specs.declared.thread.Call.{Call}
use Rattle.run_model.specs.declared.thread.Thread.{Thread}
use Rattle.run_model.specs.declared.thread.TheConstants.{LONGEST_CALL}

-- it has steps left, and is no longer than a call can be
pub record IsInProgress (call : Call) : Type 0 where
  pub left : call.done < call.length
  pub short : call.length ≤ LONGEST_CALL

-- The calls of a thread in the order in which they began. A step begins one at most, so that each has more steps done than
-- those behind it.
pub record BeganInTurn (calls : List Call) : Type 0 where
  pub each : All IsInProgress calls
  pub turns : AllPairs (λ call later. later.done < call.done) calls

abbrev pub AreInProgress : Option Thread → Type 0
AreInProgress None = Unit {0}
AreInProgress (Some thread) = BeganInTurn thread.calls
