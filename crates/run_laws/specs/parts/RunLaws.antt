-- What the run of a job comes to is determined by the job and the told files, and every run ends.
use Rattle.std.specs.Prelude.{◌≡◌, ◌⊎◌, ◌^◌, ◌<◌}
use Rattle.fd_base.specs.Fetched.{Files}
use Rattle.load_model.specs.declared.error.LoadRefusal.{LoadRefusal}
use Rattle.load_model.specs.Plan.{Fits}
use Rattle.load_outcomes.specs.parts.Outcomes.{LoadComesTo}
use Rattle.run_model.specs.declared.job.Job.{Job}
use Rattle.run_model.specs.declared.thread.Turned.{Turned}
use Rattle.run_model.specs.declared.thread.Turned.TheVariants.{Ended, Stopped}
use Rattle.run_model.specs.Courses.{Course}
use Rattle.proc_run.specs.RunEnds.{IsRun}
use Rattle.proc_run.specs.StartAnswers.{IsStartRefused}

-- a job has one course, or one refusal, and not both
pub record RunsAreDetermined : Type 0 where
  pub same : (job : Job) (told : Files) (c d : Course) → IsRun job told c → IsRun job told d → c ≡ d
  pub exclusive : (job : Job) (told : Files) (c : Course) (r : LoadRefusal) → IsRun job told c → ¬ IsStartRefused job told r
  pub one_refusal : (job : Job) (told : Files) (r s : LoadRefusal) → IsStartRefused job told r → IsStartRefused job told s → r ≡ s

-- the process has ended, or it has stopped before an instruction
abbrev pub HasEnded : Turned → Type 0
HasEnded Ended = Unit {0}
HasEnded (Stopped why) = Unit {0}
HasEnded other = ⊥

-- the last turn of each course ends it
abbrev pub RunsEnd : Type 0
RunsEnd = (job : Job) (told : Files) (c : Course) → IsRun job told c → HasEnded c.answer

-- a job has a course that ends, or a refusal
abbrev pub JobComesTo : Job → Files → Type 0
JobComesTo job told = ((c : Course) × IsRun job told c × HasEnded c.answer) ⊎ ((r : LoadRefusal) × IsStartRefused job told r)

pub record RunsComeTo : Type 0 where
  -- each job over a memory plan whose parts fit
  pub each : (job : Job) (told : Files) → Fits job.plan → job.plan.memory < 2 ^ 32 → JobComesTo job told
  -- and each whose program is loaded or refused
  pub loaded : (job : Job) (told : Files) → LoadComesTo job.plan told job.program → JobComesTo job told
