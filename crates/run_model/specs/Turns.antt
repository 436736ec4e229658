-- A turn of one thread: one instruction, which is a step unless it stops. Calls through entries of the procedure linkage
-- table are followed from their beginning to their arrival, which is told by the pc alone.
use Rattle.std.specs.Prelude.{ℕ, suc, Bool, not, nat_le, ◌==◌, List, [], ◌∷◌, ◌++◌, filter, map, set, Option, Some, None, if◌then◌else◌}
use Rattle.std.specs.List.{flat_map}
use Rattle.std.specs.Option.{option_map_or, option_to_list}
use Rattle.load_map.specs.declared.entry.MapEntry.{MapEntry}
use Rattle.elf_model.specs.declared.func.Func.{Func}
use Rattle.a32_machine.specs.Registers.{pc_of}
use Rattle.load_model.specs.declared.module.SymbolicProcess.{SymbolicProcess}
use Rattle.load_state.specs.Loaded.{Loaded}
use Rattle.run_model.specs.declared.event.Event.{Event}
use Rattle.run_model.specs.declared.event.Event.TheVariants.{Out, Arrive, Enter, Done, Exit, End, Stopped}
use Rattle.run_model.specs.declared.event.Stop.{Stop}
use Rattle.run_model.specs.declared.event.Stop.TheVariants as stop
use Rattle.run_model.specs.declared.service.Served.{Served}
use Rattle.run_model.specs.declared.service.Served.TheVariants as served
use Rattle.run_model.specs.declared.thread.Call.{Call}
use Rattle.run_model.specs.declared.thread.Thread.{Thread}
use Rattle.run_model.specs.declared.thread.Turned.{Turned}
use Rattle.run_model.specs.declared.thread.Turned.TheVariants as turned
use Rattle.run_model.specs.Instructions.{Obeyed, obeyed_by}
use Rattle.placed_code.specs.Places.{code_at}
use Rattle.run_model.specs.Calls.{call_begun}
use Rattle.run_model.specs.State.{State, some_lives, thread_at}

-- how a turn ends, what it leaves, and its events
pub record Taken : Type 0 where
  pub answer : Turned
  pub state : State
  pub events : List Event

-- ---- calls

-- one more step of its thread is done
abbrev pub advanced : Call → Call
advanced call = record call { done = suc call.done }

abbrev pub is_complete : Call → Bool
is_complete call = call.done == call.length

-- the place is what the pc names; where that is no placed code there is no arrival
abbrev pub arrival : ℕ → ℕ → Option Func → List Event
arrival steps t place = option_map_or (λ f. Arrive steps t f ∷ []) place []

abbrev pub entering : ℕ → ℕ → Call → Event
entering steps t call = Enter steps t call.number call.slot

abbrev pub events_of_calls : ℕ → ℕ → Option Func → List Call → Option Call → List Event
events_of_calls steps t place calls begun =
    flat_map (λ call. arrival steps t place) (filter is_complete calls) ++ map (entering steps t) (option_to_list begun)

abbrev pub calls_with : List Call → Option Call → List Call
calls_with calls begun = filter (λ call. not (is_complete call)) calls ++ option_to_list begun

-- the calls of a thread after a step
abbrev pub with_calls : SymbolicProcess → List (List MapEntry) → Thread → Thread
with_calls p maps thread = record thread { calls = calls_with (map advanced thread.calls) (call_begun p maps thread.cpu) }

-- the arrivals and the beginning of calls by a step, where so many are done
abbrev pub call_events : SymbolicProcess → List (List MapEntry) → ℕ → ℕ → Thread → List Event
call_events p maps steps t thread =
    events_of_calls steps t (code_at p maps (pc_of thread.cpu)) (map advanced thread.calls) (call_begun p maps thread.cpu)

-- ---- a step of a thread that goes on

-- what is loaded now, and the thread with its cpu after the step
abbrev pub went : State → ℕ → Loaded → Thread → List Event → Turned → Taken
went s t l thread events answer = record {
  answer = answer;
  state = record { loaded = l; threads = set s.threads t (Some (with_calls l.modules.process l.modules.maps thread)); steps = suc s.steps };
  events = events ++ call_events l.modules.process l.modules.maps (suc s.steps) t thread;
}

-- ---- steps after which the thread or the process has ended

-- the thread has ended; with the last one the process ends
abbrev pub left_by : State → ℕ → ℕ → Taken
left_by s t value =
    if some_lives s.threads then record { answer = turned.ThreadDone; state = s; events = Done s.steps t value ∷ [] }
    else record { answer = turned.Ended; state = s; events = Done s.steps t value ∷ End s.steps ∷ [] }

abbrev pub finished : State → ℕ → Loaded → ℕ → Taken
finished s t l value = left_by (record { loaded = l; threads = set s.threads t None; steps = suc s.steps }) t value

-- no thread lives on
abbrev pub exited : State → ℕ → Loaded → ℕ → Taken
exited s t l value = record {
  answer = turned.Ended;
  state = record { loaded = l; threads = map (λ place. None) s.threads; steps = suc s.steps };
  events = Exit (suc s.steps) t value ∷ [];
}

-- ---- stops

-- an instruction that stops is no step, and all stays as before it
abbrev pub stopped : State → ℕ → Stop → Taken
stopped s t why = record { answer = turned.Stopped why; state = s; events = Stopped s.steps t why ∷ [] }

-- ---- a turn

-- by what its instruction comes to
abbrev pub gone_as : State → ℕ → Loaded → Thread → Served → Taken
gone_as s t l thread served.Went = went s t l thread [] turned.Next
gone_as s t l thread (served.Wrote bytes) = went s t l thread (Out (suc s.steps) t bytes ∷ []) turned.Next
gone_as s t l thread served.Yielded = went s t l thread [] turned.Yield
gone_as s t l thread (served.Finished value) = finished s t l value
gone_as s t l thread (served.Exited value) = exited s t l value
gone_as s t l thread (served.Stopped why) = stopped s t why

abbrev pub gone_by : State → ℕ → Thread → Obeyed → Taken
gone_by s t thread d =
    gone_as s t (record s.loaded { memory = d.memory }) (record { cpu = d.cpu; refusal = d.refusal; calls = thread.calls }) d.served

-- where all steps of the job are done, the run stops before one more
abbrev pub turned_by : ℕ → State → ℕ → Thread → Taken
turned_by limit s t thread =
    if nat_le limit s.steps then stopped s t stop.Limit else gone_by s t thread (obeyed_by thread.cpu thread.refusal s.loaded.memory)

-- a turn of a thread that doesn't live does nothing
abbrev pub turned_at : ℕ → State → ℕ → Option Thread → Taken
turned_at limit s t None = record { answer = turned.ThreadDone; state = s; events = [] }
turned_at limit s t (Some thread) = turned_by limit s t thread

unfoldable pub turn_of : ℕ → State → ℕ → Taken
turn_of limit s t = turned_at limit s t (thread_at s.threads t)
