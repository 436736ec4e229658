-- What is to be left by a turn.
use Rattle.std.specs.Prelude.{◌≡◌, ℕ, List, Option, Some}
use Rattle.load_map.specs.declared.entry.MapEntry.{MapEntry}
use Rattle.load_model.specs.declared.module.SymbolicProcess.{SymbolicProcess}
use Rattle.load_state.specs.Loaded.{Loaded}
use Rattle.run_model.specs.declared.event.Event.{Event}
use Rattle.run_model.specs.declared.thread.Thread.{Thread}
use Rattle.run_model.specs.declared.thread.Turned.{Turned}
use Rattle.run_model.specs.State.{State, thread_at}
use Rattle.run_model.specs.Turns.{Taken}

abbrev pub state_with : Loaded → List (Option Thread) → ℕ → State
state_with l threads steps = record { loaded = l; threads = threads; steps = steps }

-- what is loaded are these modules with these load maps, and the thread of a number is this one
pub record IsAt (l : Loaded) (p : SymbolicProcess) (maps : List (List MapEntry)) (threads : List (Option Thread)) (t : ℕ) (thread : Thread) : Type 0 where
  pub process' : l.modules.process ≡ p
  pub maps' : l.modules.maps ≡ maps
  pub at : thread_at threads t ≡ Some thread

-- a turn has left these threads and steps, with this answer and these events
abbrev pub Left : Loaded → List (Option Thread) → ℕ → Turned → List Event → Taken → Type 0
Left l threads steps answer events taken = taken ≡ record { answer = answer; state = state_with l threads steps; events = events }
