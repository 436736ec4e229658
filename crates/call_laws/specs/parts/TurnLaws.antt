-- What holds of turns and of calls.
use Rattle.std.specs.Prelude.{◌≡◌, ◌≢◌, ℕ, ◌<◌, List, Some, IfSome}
use Rattle.guest_mem.specs.parts.Kept.{Keeps}
use Rattle.a32_machine.specs.declared.cpu.Cpu.{Cpu}
use Rattle.run_model.specs.declared.thread.Thread.{Thread}
use Rattle.run_model.specs.declared.thread.Turned.TheVariants.{Next}
use Rattle.run_model.specs.Courses.{course_of}
use Rattle.run_model.specs.State.{State, thread_at}
use Rattle.run_model.specs.Turns.{turn_of}
use Rattle.call_laws.specs.Calls.{BoundCall, Begins, HasCpu, Holds, arrived, cpu_after}
use Rattle.call_laws.specs.Schedules.{after, events_from, own_turns, turns_from}
use Rattle.call_laws.specs.TakenTurns.{threads_of}

-- A turn of one thread: modules stay where they are, watched bytes and all that isn't Data stay, and so do other threads.
pub record IsTurnOf (t : ℕ) (old new : State) : Type 0 where
  pub plan : new.loaded.modules.plan ≡ old.loaded.modules.plan
  pub process : new.loaded.modules.process ≡ old.loaded.modules.process
  pub maps : new.loaded.modules.maps ≡ old.loaded.modules.maps
  pub keeps : Keeps old.loaded.memory new.loaded.memory
  pub others : (u : ℕ) → u ≢ t → thread_at new.threads u ≡ thread_at old.threads u

abbrev pub TurnsKeep : Type 0
TurnsKeep = (limit : ℕ) (s : State) (t : ℕ) → IfSome (after (turn_of limit s t)) (IsTurnOf t s)

-- Whatever turns there are, where four of them are the calling thread's and the run goes on, the call has arrived.
abbrev pub CallsArrive : Type 0
CallsArrive = (limit : ℕ) (s : State) (schedule : List ℕ) (t : ℕ) (thread : Thread) (c : BoundCall)
    → thread_at s.threads t ≡ Some thread → Begins thread.cpu c → Holds s.loaded.memory c → own_turns t schedule ≡ 4
    → IfSome (turns_from limit schedule s) (λ later. HasCpu later t (arrived thread.cpu c))

-- Each of its four steps is done, unless all steps of the job are.
abbrev pub CallsGoOn : Type 0
CallsGoOn = (limit : ℕ) (s : State) (t : ℕ) (begin : Cpu) (c : BoundCall) (n : ℕ)
    → Begins begin c → Holds s.loaded.memory c → HasCpu s t (cpu_after begin c n) → n < 4 → s.steps < limit
    → (turn_of limit s t).answer ≡ Next

-- A run takes one turn after another: what holds of all turns holds of runs.
abbrev pub CoursesAreTurns : Type 0
CoursesAreTurns = (limit : ℕ) (turns : List (ℕ × ℕ)) (s : State) → (course_of limit turns s).events ≡ events_from limit (threads_of limit turns s) s
