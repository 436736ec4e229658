-- The journal of a run: what holds of its lines and of its calls.
use Rattle.std.specs.Prelude.{◌≡◌, ℕ, ◌<◌, ◌≤◌, List, [], ◌∷◌, ◌++◌, Some, Contains, IfSome}
use Rattle.elf_model.specs.declared.func.Func.{Func}
use Rattle.load_state.specs.Consistent.{IsConsistent}
use Rattle.load_state.specs.Loaded.{Loaded}
use Rattle.fd_base.specs.Fetched.{Files}
use Rattle.run_model.specs.declared.event.Event.{Event}
use Rattle.run_model.specs.declared.event.Event.TheVariants.{Arrive, Enter}
use Rattle.run_model.specs.declared.event.Stop.TheVariants.{Fault}
use Rattle.run_model.specs.declared.job.Job.{Job}
use Rattle.run_model.specs.declared.thread.Call.{Call}
use Rattle.run_model.specs.declared.thread.Thread.{Thread}
use Rattle.run_model.specs.declared.thread.Turned.TheVariants.{Next}
use Rattle.run_model.specs.Courses.{Course}
use Rattle.run_model.specs.Start.{first_events, state_with}
use Rattle.run_model.specs.State.{State}
use Rattle.run_model.specs.Turns.{stopped, turn_of}
use Rattle.proc_run.specs.BegunProcess.{thread_at_entry}
use Rattle.proc_run.specs.RunEnds.{IsRun}
use Rattle.proc_run.specs.RunParts.{schedule_of}
use Rattle.call_laws.specs.Schedules.{events_from, own_turns, turns_from}
use Rattle.call_laws.specs.TakenTurns.{threads_of}
use Rattle.call_laws.specs.BegunCalls.{IsAtClearEntry}
use Rattle.run_laws.specs.Arrivals.{IsArrival, LeadsNowhere, LeadsTo}
use Rattle.run_laws.specs.Lines.{steps_told}
use Rattle.run_laws.specs.Moments.{EndsBy, Enters, IsArrived, IsEntered, IsMoment, IsNew}

-- Each new call begins at the moment.
abbrev pub NewCallsBegin : ℕ → State → List ℕ → Type 0
NewCallsBegin limit begin turns =
    (s : State) (coming : List ℕ) (t : ℕ) (thread : Thread) (call : Call) → IsMoment limit begin turns s coming → IsNew s t thread call → Enters s t thread call

-- Each call that begins at a clear entry, and whose slot leads to a function, arrives there with its thread's fourth turn,
-- whatever turns others have before that, unless the run is over.
abbrev pub EnteredCallsArrive : ℕ → State → List ℕ → Type 0
EnteredCallsArrive limit begin turns =
    (s : State) (coming before rest : List ℕ) (t : ℕ) (thread : Thread) (call : Call) (f : Func) → IsMoment limit begin turns s coming
    → Enters s t thread call → IsAtClearEntry s.loaded thread.cpu call → LeadsTo s.loaded call.number call.slot f
    → coming ≡ before ++ t ∷ rest → own_turns t before ≡ 3
    → IfSome (turns_from limit (before ++ t ∷ []) s) (IsArrival limit s (before ++ t ∷ []) t thread.cpu call f)

-- None of these four turns ends or stops the run, unless all steps that it may take are done.
abbrev pub EnteredCallsGoOn : ℕ → State → List ℕ → Type 0
EnteredCallsGoOn limit begin turns =
    (s mid : State) (coming before rest : List ℕ) (t : ℕ) (thread : Thread) (call : Call) → IsMoment limit begin turns s coming
    → Enters s t thread call → IsAtClearEntry s.loaded thread.cpu call → coming ≡ before ++ rest → own_turns t before ≤ 3
    → turns_from limit before s ≡ Some mid → mid.steps < limit → (turn_of limit mid t).answer ≡ Next

-- Each of these four turns leaves the memory, and all that is loaded, as it was before that turn.
abbrev pub EnteredCallsKeepMemory : ℕ → State → List ℕ → Type 0
EnteredCallsKeepMemory limit begin turns =
    (s mid : State) (coming before rest : List ℕ) (t : ℕ) (thread : Thread) (call : Call) → IsMoment limit begin turns s coming
    → Enters s t thread call → IsAtClearEntry s.loaded thread.cpu call → coming ≡ before ++ rest → own_turns t before ≤ 3
    → turns_from limit before s ≡ Some mid → (turn_of limit mid t).state.loaded ≡ mid.loaded

-- A call at a clear entry whose slot leads to no function has no line of arrival: there is no line at all at its thread's
-- fourth turn, and before the fifth the run stops, since nothing is mapped at address 0.
pub record EnteredCallsFault (limit : ℕ) (begin : State) (turns : List ℕ) : Type 0 where
  pub silent : (s mid : State) (coming before rest : List ℕ) (t : ℕ) (thread : Thread) (call : Call) → IsMoment limit begin turns s coming
      → Enters s t thread call → IsAtClearEntry s.loaded thread.cpu call → LeadsNowhere s.loaded call.number call.slot
      → coming ≡ before ++ rest → own_turns t before ≡ 3 → turns_from limit before s ≡ Some mid → mid.steps < limit → (turn_of limit mid t).events ≡ []
  pub faults : (s mid : State) (coming before rest : List ℕ) (t : ℕ) (thread : Thread) (call : Call) → IsMoment limit begin turns s coming
      → Enters s t thread call → IsAtClearEntry s.loaded thread.cpu call → LeadsNowhere s.loaded call.number call.slot
      → coming ≡ before ++ rest → own_turns t before ≡ 4 → turns_from limit before s ≡ Some mid → mid.steps < limit → turn_of limit mid t ≡ stopped mid t (Fault 0)

-- a consistent loader with the modules of another, which lie where they did
pub record StandsAs (l now : Loaded) : Type 0 where
  pub consistent : IsConsistent now
  pub plan' : now.modules.plan ≡ l.modules.plan
  pub process' : now.modules.process ≡ l.modules.process
  pub maps' : now.modules.maps ≡ l.modules.maps

-- What holds of the course of a run of what is loaded, by a schedule, from a state on, with the events before it. Its turns
-- are those that the schedule and the threads that live give, and the last of them ends it. Each line of a call that begins or
-- arrives stands for a call that does; calls go on and arrive; what is loaded stays; and no more steps are done or told than
-- may be.
pub record IsJournal (l : Loaded) (limit : ℕ) (schedule : List (ℕ × ℕ)) (begin : State) (first : List Event) (c : Course) : Type 0 where
  pub turns : List ℕ
  pub turns' : turns ≡ threads_of limit schedule begin
  pub ends : EndsBy limit begin turns c.answer
  pub events' : c.events ≡ first ++ events_from limit turns begin
  pub entered : (n t m k : ℕ) → Contains c.events (Enter n t m k) → IsEntered limit begin turns n t m k
  pub arrived : (n t : ℕ) (f : Func) → Contains c.events (Arrive n t f) → IsArrived limit begin turns n t f
  pub begins : NewCallsBegin limit begin turns
  pub arrives : EnteredCallsArrive limit begin turns
  pub go_on : EnteredCallsGoOn limit begin turns
  pub keep_memory : EnteredCallsKeepMemory limit begin turns
  pub fault : EnteredCallsFault limit begin turns
  pub stands : (s : State) (coming : List ℕ) → IsMoment limit begin turns s coming → StandsAs l s.loaded
  pub within : (s : State) (coming : List ℕ) → IsMoment limit begin turns s coming → s.steps ≤ limit
  pub told_within : (e : Event) → Contains c.events e → IfSome (steps_told e) (λ n. n ≤ limit)

-- the course of a job's run is a journal, from where the run begins
abbrev pub IsJournalOf : (job : Job) (told : Files) (c : Course) → IsRun job told c → Type 0
IsJournalOf job told c run =
    let entry = thread_at_entry run.loaded run.entry in
    IsJournal run.loaded job.steps (schedule_of job.turns) (state_with run.loaded entry) (first_events run.loaded entry) c
