-- What a turn of a process leaves, and what its sink gains.
use Rattle.std.specs.Prelude.{◌≡◌, ℕ, List, [], ◌++◌, Option, Result, Ok, Err}
use Rattle.fd_base.specs.declared.sink.SinkErr.{SinkErr}
use Rattle.fd_base.specs.declared.sink.SinkErr.TheVariants as sink
use Rattle.fd_base.specs.Faults.{Rose}
use Rattle.fd_base.specs.Grown.{Grew, GrewByPart}
use Rattle.run_model.specs.declared.thread.Turned.{Turned}
use Rattle.run_model.specs.declared.thread.Turned.TheVariants.{Next, Yield, ThreadDone, Ended, Stopped, StoreFault, SinkFault, Memory}
use Rattle.run_model.specs.Report.{report_of}
use Rattle.run_model.specs.State.{State}
use Rattle.run_model.specs.Turns.{Taken, turn_of}
use Rattle.proc_run.specs.RunningProcess.{Running}

-- the turn of a thread
abbrev pub taken_by : Running → ℕ → Taken
taken_by p t = turn_of p.limit p.state t

-- the lines that a turn has to put: those of the events that had none, and those of its own
abbrev pub text_of : Running → ℕ → List ℕ
text_of p t = report_of (p.pending ++ (taken_by p t).events)

-- no event is without its line
abbrev pub with_lines : Running → State → Running
with_lines p s = record p { state = s; pending = [] }

-- the turn is taken, and its lines are put
pub record IsTaken (old : Running) (t : ℕ) (new : Running) (answer : Turned) (out later : Option (List ℕ)) : Type 0 where
  pub answer' : answer ≡ (taken_by old t).answer
  pub new' : new ≡ with_lines old (taken_by old t).state
  pub grew : Grew out later (text_of old t)

-- the same of what may fail
abbrev pub PutsTurn : Running → ℕ → Running → Option (List ℕ) → Option (List ℕ) → ℕ → ℕ → Result Turned SinkErr → Type 0
PutsTurn p t new out later before after (Ok answer) = IsTaken p t new answer out later
PutsTurn p t new out later before after (Err sink.Failed) = Rose before after × GrewByPart out later (text_of p t)
PutsTurn p t new out later before after (Err sink.Memory) = GrewByPart out later (text_of p t)

-- By the answer. Where the sink fails or memory is wanted, the sink has part of the lines.
abbrev pub TurnAnswers : Turned → Running → ℕ → Running → Option (List ℕ) → Option (List ℕ) → ℕ → ℕ → Type 0
TurnAnswers Next p t new out later before after = IsTaken p t new Next out later
TurnAnswers Yield p t new out later before after = IsTaken p t new Yield out later
TurnAnswers ThreadDone p t new out later before after = IsTaken p t new ThreadDone out later
TurnAnswers Ended p t new out later before after = IsTaken p t new Ended out later
TurnAnswers (Stopped why) p t new out later before after = IsTaken p t new (Stopped why) out later
TurnAnswers StoreFault p t new out later before after = IsTaken p t new StoreFault out later
TurnAnswers SinkFault p t new out later before after = Rose before after × GrewByPart out later (text_of p t)
TurnAnswers Memory p t new out later before after = GrewByPart out later (text_of p t)

-- the process is not over
abbrev pub GoesOn : Turned → Type 0 → Type 0
GoesOn Next P = P
GoesOn Yield P = P
GoesOn ThreadDone P = P
GoesOn Ended P = Unit {0}
GoesOn (Stopped why) P = Unit {0}
GoesOn StoreFault P = Unit {0}
GoesOn SinkFault P = Unit {0}
GoesOn Memory P = Unit {0}

-- the turn of a thread never ends by what is outside of it
abbrev pub IsOwn : Turned → Type 0
IsOwn Next = Unit {0}
IsOwn Yield = Unit {0}
IsOwn ThreadDone = Unit {0}
IsOwn Ended = Unit {0}
IsOwn (Stopped why) = Unit {0}
IsOwn other = ⊥

-- what holds where the thread goes on
abbrev pub IfNext : Turned → Type 0 → Type 0
IfNext Next P = P
IfNext Yield P = Unit {0}
IfNext ThreadDone P = Unit {0}
IfNext Ended P = Unit {0}
IfNext (Stopped why) P = Unit {0}
IfNext StoreFault P = Unit {0}
IfNext SinkFault P = Unit {0}
IfNext Memory P = Unit {0}
