-- Commands that name a file with the text of a job.
use Rattle.std.specs.Prelude.{◌≡◌, ℕ, ◌⊎◌, List, Option, Result, Ok, Err, IfSome}
use Rattle.fd_base.specs.Faults.{Rose}
use Rattle.fd_base.specs.Fetched.{Files}
use Rattle.run_model.specs.declared.job.Job.{Job}
use Rattle.job_text.specs.declared.refusal.JobRefusal.{JobRefusal}
use Rattle.job_text.specs.Job.{IsJob, IsRefused}
use Rattle.fdpic_cmd.specs.declared.status.Failure.{Failure}
use Rattle.fdpic_cmd.specs.declared.status.Failure.TheVariants.{Refused, StoreFault, Memory}
use Rattle.fdpic_cmd.specs.declared.status.Refusal.TheVariants.{Job as NoJob, Load}
use Rattle.fdpic_cmd.specs.Outcome.{Outcome, refuses}
use Rattle.fdpic_cmd.specs.Files.{OnFile, IsFile}
use Rattle.fdpic_cmd.specs.Program.{ProgramMeans}

-- the text is a job, and its outcome is this one
pub record OnJob (means : Job → Outcome → Type 0) (bytes : List ℕ) (o : Outcome) : Type 0 where
  pub job : Job
  pub is : IsJob bytes job
  pub meant : means job o

-- the text is no job: the line, and what is wrong with it
pub record OnNoJob (bytes : List ℕ) (o : Outcome) : Type 0 where
  pub refusal : JobRefusal
  pub refused : IsRefused bytes refusal
  pub says : o ≡ refuses (NoJob refusal.line refusal.kind)

-- the outcome of what is done with the job in a file, or why the file has none
abbrev pub JobMeans : (Job → Outcome → Type 0) → List ℕ → Files → Outcome → Type 0
JobMeans means name told o = OnFile told name (λ bytes o. OnJob means bytes o ⊎ OnNoJob bytes o) o

-- bind JOB: the program is loaded over the job's memory plan. The mode, the steps and the turns count for nothing.
abbrev pub BindJobMeans : List ℕ → Files → Outcome → Type 0
BindJobMeans name told o = JobMeans (λ job o. ProgramMeans job.plan job.program Load told o) name told o

-- ---- what opening the job in a file answers

-- the file is this job
pub record IsJobFile (told : Files) (name : List ℕ) (job : Job) : Type 0 where
  pub bytes : List ℕ
  pub file : IsFile told name bytes
  pub is : IsJob bytes job

-- nothing is done with a job
abbrev pub NoneDone : Job → Outcome → Type 0
NoneDone job o = ⊥

abbrev pub OpensJob : Option Files → List ℕ → ℕ → ℕ → Result Job Failure → Type 0
OpensJob files name old new (Ok job) = IfSome files (λ told. IsJobFile told name job)
OpensJob files name old new (Err (Refused r)) = IfSome files (λ told. JobMeans NoneDone name told (refuses r))
OpensJob files name old new (Err StoreFault) = Rose old new
OpensJob files name old new (Err Memory) = Unit {0}
