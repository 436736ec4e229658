-- Runs of turns of which nothing is told, up to one of which something may be.
use Rattle.std.specs.Prelude.{◌≡◌, ℕ, zero, suc, ◌+◌, ◌<◌, ◌≤◌, true, List, Option, Some, None}
use Rattle.run_model.specs.declared.event.Event.{Event}
use Rattle.run_model.specs.declared.thread.Turned.{Turned}
use Rattle.run_model.specs.declared.thread.Turned.TheVariants.{Next, Yield, ThreadDone}
use Rattle.run_model.specs.Courses.{Course, after_turn, followed}
use Rattle.run_model.specs.State.{State, lives}
use Rattle.run_model.specs.Turns.{turn_of}
use Rattle.run_turn.specs.declared.settling.Settled.{Settled}
use Rattle.run_turn.specs.parts.QuietTurns.{quiet}
use Rattle.proc_run.specs.declared.end.Going.{Going}
use Rattle.proc_run.specs.declared.end.Going.TheVariants.{Same, Others}
use Rattle.proc_run.specs.parts.Turns.{GoesOn, IfNext, IsOwn}

-- Courses by the number of turns that are left: one more is a turn of the thread, and then the same thread with the rest or others.
abbrev pub IsChain : ℕ → ℕ → (ℕ → State → Course) → (ℕ → State → Course) → Type 0
IsChain limit t same others = (n : ℕ) (s : State) → same (suc n) s ≡ after_turn (turn_of limit s t) (same n) (others n)

-- so many turns of a thread, of none of which anything is told
abbrev pub AreQuiet : ℕ → ℕ → ℕ → State → State → Type 0
AreQuiet limit t zero old new = new ≡ old
AreQuiet limit t (suc n) old new = (mid : State) × AreQuiet limit t n old mid × (turn_of limit mid t ≡ quiet new)

-- turns are taken, one at least, and nothing is told of any
pub record ArePassing (limit t left later : ℕ) (old new : State) : Type 0 where
  pub count : ℕ
  pub some : 0 < count
  pub taken : later + count ≡ left
  pub quiet' : AreQuiet limit t count old new

-- one more turn is taken behind quiet ones, with this answer and these events
pub record IsPassing (limit t left later : ℕ) (old new : State) (r : Settled) : Type 0 where
  pub count : ℕ
  pub mid : State
  pub taken : later + suc count ≡ left
  pub quiet' : AreQuiet limit t count old mid
  pub turn : turn_of limit mid t ≡ record { answer = r.answer; state = new; events = r.events }

-- by what is to be told
abbrev pub Passes : ℕ → ℕ → Option Settled → ℕ → ℕ → State → State → Type 0
Passes limit t None left later old new = ArePassing limit t left later old new
Passes limit t (Some r) left later old new = IsPassing limit t left later old new r

-- some of the turns that are left have been taken, and nothing is told of them
pub record ArePassed (limit t : ℕ) (old : State) (left : ℕ) (new : State) (later : ℕ) : Type 0 where
  pub part : (same others : ℕ → State → Course) → IsChain limit t same others → same left old ≡ same later new
  pub steps : new.steps + later ≡ old.steps + left
  pub fewer : later ≤ left
  pub below : later < left → old.steps < limit
  pub goes : lives new.threads t ≡ true

-- the last one that was taken has this answer and these events, and nothing is told of those before it
pub record HasPassed (limit t : ℕ) (old : State) (left : ℕ) (new : State) (later : ℕ) (answer : Turned) (events : List Event) : Type 0 where
  pub part : (same others : ℕ → State → Course) → IsChain limit t same others → same left old ≡ followed answer events (same later new) (others later new)
  pub own : IsOwn answer
  pub fewer : later < left
  pub steps : GoesOn answer (new.steps + later ≡ old.steps + left)
  pub below : GoesOn answer (old.steps < limit)
  pub goes : IfNext answer (lives new.threads t ≡ true)

-- whether the same thread goes on, by an answer after which some thread may
abbrev pub AnswersAs : Turned → Going → Type 0
AnswersAs Next going = going ≡ Same
AnswersAs Yield going = going ≡ Others
AnswersAs ThreadDone going = going ≡ Others
AnswersAs other going = ⊥
