-- Turns of which nothing is told.
use Rattle.std.specs.Prelude.{◌≡◌, List, [], Option, Some, None}
use Rattle.load_map.specs.declared.entry.MapEntry.{MapEntry}
use Rattle.load_model.specs.declared.module.SymbolicProcess.{SymbolicProcess}
use Rattle.run_model.specs.declared.thread.Thread.{Thread}
use Rattle.run_model.specs.declared.thread.Turned.TheVariants as turned
use Rattle.run_model.specs.Calls.{call_begun}
use Rattle.run_model.specs.State.{State}
use Rattle.run_model.specs.Turns.{Taken}
use Rattle.run_turn.specs.declared.settling.Settled.{Settled}

-- the thread goes on, without an event
abbrev pub quiet : State → Taken
quiet s = record { answer = turned.Next; state = s; events = [] }

-- a turn that leaves this; where nothing is told of it, it is quiet
abbrev pub taken_as : Option Settled → State → Taken
taken_as None s = quiet s
taken_as (Some r) s = record { answer = r.answer; state = s; events = r.events }

-- a thread has no calls in progress, and none begins
pub record IsApart (p : SymbolicProcess) (maps : List (List MapEntry)) (thread : Thread) : Type 0 where
  pub calls' : thread.calls ≡ []
  pub begun : call_begun p maps thread.cpu ≡ None
