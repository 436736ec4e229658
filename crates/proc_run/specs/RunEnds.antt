-- How the run of a job ends.
use Rattle.std.specs.Prelude.{◌≡◌, ◌⊎◌, ℕ, false, List, Option, Some, IfSome}
use Rattle.fd_base.specs.Faults.{Rose}
use Rattle.fd_base.specs.Fetched.{Files}
use Rattle.fd_base.specs.Grown.{Grew, GrewByPart}
use Rattle.load_state.specs.Loaded.{Loaded}
use Rattle.run_model.specs.declared.job.Job.{Job}
use Rattle.run_model.specs.declared.thread.Turned.{Turned}
use Rattle.run_model.specs.declared.thread.Turned.TheVariants as turned
use Rattle.run_model.specs.Courses.{Course}
use Rattle.placed_code.specs.Places.{entry_point}
use Rattle.run_model.specs.Report.{report_of}
use Rattle.run_model.specs.Start.{run_of}
use Rattle.proc_run.specs.declared.end.RunEnd.{RunEnd}
use Rattle.proc_run.specs.declared.end.RunEnd.TheVariants.{Ended, Stopped, Refused, StoreFault, SinkFault, Memory}
use Rattle.proc_run.specs.StartAnswers.{IsStartRefused}
use Rattle.load_state.specs.ProgramLoad.{IsProgramLoaded}
use Rattle.proc_run.specs.RunParts.{schedule_of}

-- the course of a job whose slots are bound when it is loaded
pub record IsRun (job : Job) (told : Files) (c : Course) : Type 0 where
  pub eager : job.lazy ≡ false
  pub loaded : Loaded
  pub entry : ℕ
  pub loads : IsProgramLoaded job.plan told job.program loaded
  pub entry' : entry_point loaded.modules.process loaded.modules.maps 0 ≡ Some entry
  pub course' : c ≡ run_of loaded job.steps (schedule_of job.turns) entry

-- the run ends by this answer, and out has gained its report
pub record IsDone (job : Job) (answer : Turned) (out later : Option (List ℕ)) (told : Files) : Type 0 where
  pub course : Course
  pub run : IsRun job told course
  pub answer' : course.answer ≡ answer
  pub grew : Grew out later (report_of course.events)

-- out has gained a part of the run's report
pub record IsPart (job : Job) (out later : Option (List ℕ)) (told : Files) : Type 0 where
  pub course : Course
  pub run : IsRun job told course
  pub grew : GrewByPart out later (report_of course.events)

-- The store's counts of faults, out, and out's counts of faults, each before and after. No line is put before the program
-- is loaded.
abbrev pub RunEnds : RunEnd → Job → Option Files → ℕ → ℕ → Option (List ℕ) → Option (List ℕ) → ℕ → ℕ → Type 0
RunEnds Ended job files old new out later before after = IfSome files (IsDone job turned.Ended out later)
RunEnds (Stopped why) job files old new out later before after = IfSome files (IsDone job (turned.Stopped why) out later)
RunEnds (Refused r) job files old new out later before after = (later ≡ out) × IfSome files (λ told. IsStartRefused job told r)
RunEnds StoreFault job files old new out later before after = (later ≡ out) × Rose old new
RunEnds SinkFault job files old new out later before after = Rose before after × IfSome files (IsPart job out later)
RunEnds Memory job files old new out later before after = (later ≡ out) ⊎ IfSome files (IsPart job out later)
