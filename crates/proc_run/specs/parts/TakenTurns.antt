-- What an instruction of a thread with its service leaves of a process.
use Rattle.std.specs.Prelude.{◌≡◌, ℕ, ◌<◌, List, [], set, Option, Some, None}
use Rattle.load_map.specs.declared.entry.MapEntry.{MapEntry}
use Rattle.load_model.specs.declared.module.SymbolicProcess.{SymbolicProcess}
use Rattle.load_state.specs.Loaded.{Loaded}
use Rattle.run_model.specs.declared.service.Served.{Served}
use Rattle.run_model.specs.declared.thread.Thread.{Thread}
use Rattle.run_model.specs.Instructions.{Obeyed, obeyed_by}
use Rattle.run_turn.specs.declared.quiet.Passed.{Passed}
use Rattle.run_turn.specs.parts.QuietCalls.{NoneComplete}
use Rattle.run_turn.specs.parts.QuietSteps.{GoQuietly, Machine, machine_of, thread_on}

-- the thread after it
abbrev pub thread_after : Thread → Obeyed → Thread
thread_after thread d = record { cpu = d.cpu; refusal = d.refusal; calls = thread.calls }

abbrev pub obeyed_in : Loaded → Thread → Obeyed
obeyed_in l thread = obeyed_by thread.cpu thread.refusal l.memory

-- the memory and the thread are those after it, and all else stays
pub record HasObeyed (old new : Loaded) (threads later : List (Option Thread)) (t : ℕ) (thread : Thread) (served : Served) : Type 0 where
  pub served' : served ≡ (obeyed_in old thread).served
  pub loaded' : new ≡ record old { memory = (obeyed_in old thread).memory }
  pub threads' : later ≡ set threads t (Some (thread_after thread (obeyed_in old thread)))

-- ---- behind quiet steps

abbrev pub loaded_on : Loaded → Machine → Loaded
loaded_on l m = record l { memory = m.memory }

-- the thread has this cpu, and so many steps are done of its calls
abbrev pub threads_on : List (Option Thread) → ℕ → Thread → ℕ → Machine → List (Option Thread)
threads_on threads t thread n m = set threads t (Some (thread_on n thread m.cpu))

-- what comes behind them, if anything does: without it they are all that were asked for
abbrev pub EndsOn : Option Served → ℕ → ℕ → Loaded → Loaded → List (Option Thread) → List (Option Thread) → ℕ → Thread → Machine → Type 0
EndsOn None most n old new threads later t thread mid = (n ≡ most) × (new ≡ loaded_on old mid) × (later ≡ threads_on threads t thread n mid)
EndsOn (Some served) most n old new threads later t thread mid =
    (n < most) × HasObeyed (loaded_on old mid) new (threads_on threads t thread n mid) later t (thread_on n thread mid.cpu) served

pub record HasPassedOn (p : SymbolicProcess) (maps : List (List MapEntry)) (most : ℕ) (old new : Loaded) (threads later : List (Option Thread)) (t : ℕ) (thread : Thread) (passed : Passed) : Type 0 where
  pub mid : Machine
  pub quiet' : GoQuietly p maps passed.quiet (machine_of thread.cpu old.memory) mid
  pub stay : NoneComplete passed.quiet thread.calls
  pub last' : EndsOn passed.last most passed.quiet old new threads later t thread mid
