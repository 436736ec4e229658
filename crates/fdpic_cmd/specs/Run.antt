-- run JOB: the report of the run of the job in a file.
use Rattle.std.specs.Prelude.{◌≡◌, ℕ, ◌⊎◌, List, None}
use Rattle.fd_base.specs.Fetched.{Files}
use Rattle.load_model.specs.declared.error.LoadRefusal.{LoadRefusal}
use Rattle.run_model.specs.declared.job.Job.{Job}
use Rattle.run_model.specs.declared.thread.Turned.{Turned}
use Rattle.run_model.specs.declared.thread.Turned.TheVariants as turned
use Rattle.run_model.specs.Courses.{Course}
use Rattle.run_model.specs.Report.{report_of}
use Rattle.proc_run.specs.declared.end.RunEnd.{RunEnd}
use Rattle.proc_run.specs.declared.end.RunEnd.TheVariants as end
use Rattle.proc_run.specs.RunEnds.{IsRun}
use Rattle.proc_run.specs.StartAnswers.{IsStartRefused}
use Rattle.fdpic_cmd.specs.declared.status.Refusal.TheVariants.{Load}
use Rattle.fdpic_cmd.specs.declared.status.Status.{Status}
use Rattle.fdpic_cmd.specs.declared.status.Status.TheVariants.{Done, Memory, StoreFault, SinkFault, Refused, Stopped}
use Rattle.fdpic_cmd.specs.Jobs.{JobMeans}
use Rattle.fdpic_cmd.specs.Outcome.{Outcome, refuses}

-- The status that the last answer of a run comes to: Done where the process has ended or no thread lives. No run ends by
-- another answer than these.
abbrev pub IsStatusOf : Turned → Status → Type 0
IsStatusOf turned.Ended status = status ≡ Done
IsStatusOf (turned.Stopped why) status = status ≡ Stopped why
IsStatusOf other status = ⊥

-- the job is run to its end, and its report is written
pub record IsReported (job : Job) (told : Files) (o : Outcome) : Type 0 where
  pub course : Course
  pub run : IsRun job told course
  pub status' : IsStatusOf course.answer o.status
  pub text' : o.text ≡ report_of course.events
  pub output' : o.output ≡ None

-- the run doesn't start, and nothing is written
pub record IsUnstarted (job : Job) (told : Files) (o : Outcome) : Type 0 where
  pub refusal : LoadRefusal
  pub refused : IsStartRefused job told refusal
  pub says : o ≡ refuses (Load refusal)

-- what the run of a job comes to
abbrev pub JobRunMeans : Files → Job → Outcome → Type 0
JobRunMeans told job o = IsReported job told o ⊎ IsUnstarted job told o

-- run JOB
abbrev pub RunMeans : List ℕ → Files → Outcome → Type 0
RunMeans name told o = JobMeans (JobRunMeans told) name told o

-- ---- what the parts of the program answer

-- the status that the end of a run comes to
abbrev pub status_of : RunEnd → Status
status_of end.Ended = Done
status_of (end.Stopped why) = Stopped why
status_of (end.Refused r) = Refused (Load r)
status_of end.StoreFault = StoreFault
status_of end.SinkFault = SinkFault
status_of end.Memory = Memory
