-- Parts of a run: what completes the rest completes the whole.
use Rattle.std.specs.Prelude.{◌≡◌, ℕ, List, map, Option, Result, Ok, Err}
use Rattle.fd_base.specs.Faults.{Rose}
use Rattle.fd_base.specs.Grown.{Grew, GrewByPart}
use Rattle.run_model.specs.declared.job.Turn.{Turn}
use Rattle.run_model.specs.declared.event.Event.{Event}
use Rattle.run_model.specs.declared.thread.Turned.TheVariants as turned
use Rattle.run_model.specs.Courses.{Course, before}
use Rattle.run_model.specs.Report.{report_of}
use Rattle.proc_run.specs.declared.end.Going.{Going}
use Rattle.proc_run.specs.declared.end.Going.TheVariants.{Same, Others}
use Rattle.proc_run.specs.declared.end.RunEnd.{RunEnd}
use Rattle.proc_run.specs.declared.end.RunEnd.TheVariants.{Ended, Stopped, Refused, StoreFault, SinkFault, Memory}

-- the turns of a schedule, each by its thread and its number of steps
abbrev pub schedule_of : List Turn → List (ℕ × ℕ)
schedule_of turns = map (λ turn. (turn.thread, turn.count)) turns

-- some events have their lines, and the rest of the course is to come
pub record IsLeft (whole rest : Course) (out later : Option (List ℕ)) : Type 0 where
  pub events : List Event
  pub whole' : whole ≡ before events rest
  pub grew : Grew out later (report_of events)

-- The course is over: out has its report, or a part where the sink fails or memory is wanted.
abbrev pub EndsAs : RunEnd → Course → Option (List ℕ) → Option (List ℕ) → ℕ → ℕ → Type 0
EndsAs Ended c out later old new = (c.answer ≡ turned.Ended) × Grew out later (report_of c.events)
EndsAs (Stopped why) c out later old new = (c.answer ≡ turned.Stopped why) × Grew out later (report_of c.events)
EndsAs (Refused r) c out later old new = ⊥
EndsAs StoreFault c out later old new = ⊥
EndsAs SinkFault c out later old new = Rose old new × GrewByPart out later (report_of c.events)
EndsAs Memory c out later old new = GrewByPart out later (report_of c.events)

-- a part is done, and this is the rest; or the run is over
abbrev pub DoesPart : {X : Type 0} → Course → (X → Course) → Option (List ℕ) → Option (List ℕ) → ℕ → ℕ → Result X RunEnd → Type 0
DoesPart whole rest out later old new (Ok x) = IsLeft whole (rest x) out later
DoesPart whole rest out later old new (Err e) = EndsAs e whole out later old new

-- what is to come after a step
abbrev pub after_step : Course → Course → Going → Course
after_step same others Same = same
after_step same others Others = others

-- what holds where the same thread goes on
abbrev pub GoesSame : Going → Type 0 → Type 0
GoesSame Same P = P
GoesSame Others P = Unit {0}
