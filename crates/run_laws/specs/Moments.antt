-- Moments of a run: the states between its turns, and the calls that begin and arrive there.
use Rattle.std.specs.Prelude.{◌≡◌, ℕ, List, [], ◌∷◌, ◌++◌, Some, None, Contains}
use Rattle.elf_model.specs.declared.func.Func.{Func}
use Rattle.a32_machine.specs.Registers.{pc_of}
use Rattle.run_model.specs.declared.thread.Call.{Call}
use Rattle.run_model.specs.declared.thread.Thread.{Thread}
use Rattle.run_model.specs.declared.thread.Turned.{Turned}
use Rattle.placed_code.specs.Places.{code_at}
use Rattle.run_model.specs.Calls.{call_begun}
use Rattle.run_model.specs.State.{State, thread_at}
use Rattle.run_model.specs.Turns.{turn_of}
use Rattle.call_laws.specs.Schedules.{after, own_turns, turns_from}

-- A run from `begin` by turns of one instruction each, given by their threads: some are done, and these are coming.
pub record IsMoment (limit : ℕ) (begin : State) (turns : List ℕ) (s : State) (coming : List ℕ) : Type 0 where
  pub done : List ℕ
  pub turns' : turns ≡ done ++ coming
  pub state' : turns_from limit done begin ≡ Some s

-- A new call of thread t: it is among its thread's calls, and none of its steps is done.
pub record IsNew (s : State) (t : ℕ) (thread : Thread) (call : Call) : Type 0 where
  pub lives : thread_at s.threads t ≡ Some thread
  pub among : Contains thread.calls call
  pub none_done : call.done ≡ 0

-- A call of thread t begins: it is new, the pc is at the first word of the entry of its slot, and r9 is the GOT of its module.
pub record Enters (s : State) (t : ℕ) (thread : Thread) (call : Call) : Type 0 where
  pub new : IsNew s t thread call
  pub begun : call_begun s.loaded.modules.process s.loaded.modules.maps thread.cpu ≡ Some call

-- After n steps a call of thread t through slot k of module m begins.
pub record IsEntered (limit : ℕ) (begin : State) (turns : List ℕ) (n t m k : ℕ) : Type 0 where
  pub s : State
  pub coming : List ℕ
  pub moment : IsMoment limit begin turns s coming
  pub steps' : s.steps ≡ n
  pub thread : Thread
  pub call : Call
  pub enters : Enters s t thread call
  pub number' : call.number ≡ m
  pub slot' : call.slot ≡ k

-- After n steps a call of thread t arrives at a function: it began at a moment, the thread has had three turns since then,
-- and its next one, the call's fourth, leads the pc to where the function is placed.
pub record IsArrived (limit : ℕ) (begin : State) (turns : List ℕ) (n t : ℕ) (f : Func) : Type 0 where
  pub s : State
  pub coming : List ℕ
  pub moment : IsMoment limit begin turns s coming
  pub thread : Thread
  pub call : Call
  pub enters : Enters s t thread call
  pub before : List ℕ
  pub rest : List ℕ
  pub coming' : coming ≡ before ++ t ∷ rest
  pub three : own_turns t before ≡ 3
  pub later : State
  pub reached : turns_from limit (before ++ t ∷ []) s ≡ Some later
  pub steps' : later.steps ≡ n
  pub now : Thread
  pub lives : thread_at later.threads t ≡ Some now
  pub place : code_at later.loaded.modules.process later.loaded.modules.maps (pc_of now.cpu) ≡ Some f

-- The last of the turns ends the run, by this answer.
pub record EndsBy (limit : ℕ) (begin : State) (turns : List ℕ) (answer : Turned) : Type 0 where
  pub s : State
  pub t : ℕ
  pub moment : IsMoment limit begin turns s (t ∷ [])
  pub answer' : (turn_of limit s t).answer ≡ answer
  pub over : after (turn_of limit s t) ≡ None
