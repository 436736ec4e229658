-- The job that a file is, and what is done with it.
use Rattle.std.proofs.Common.{ℕ, ◌≤◌, List, Option, Some, None, Result, Ok, Err, IfSome, refl, inl, inr, ◌⊎◌}
use Rattle.fd_base.specs.Fetched.{Files}
use Rattle.fd_base.proofs.Changing.{rose_earlier}
use Rattle.load_model.specs.declared.error.LoadErr.{LoadErr}
use Rattle.run_model.specs.declared.job.Job.{Job}
use Rattle.job_text.specs.declared.refusal.JobRefusal.{JobRefusal}
use Rattle.job_text.specs.Job.{IsJob, IsRefused}
use Rattle.fdpic_cmd.specs.declared.status.Failure.{Failure}
use Rattle.fdpic_cmd.specs.declared.status.Failure.TheVariants.{Refused, StoreFault, Memory}
use Rattle.fdpic_cmd.specs.declared.status.Refusal.{Refusal}
use Rattle.fdpic_cmd.specs.declared.status.Refusal.TheVariants.{Job as NoJob, Load}
use Rattle.fdpic_cmd.specs.Ended.{Gives}
use Rattle.fdpic_cmd.specs.Outcome.{Outcome, writes, refuses}
use Rattle.fdpic_cmd.specs.Files.{OnFile, IsFile, Never}
use Rattle.fdpic_cmd.specs.Jobs.{OnJob, OnNoJob, JobMeans, BindJobMeans, IsJobFile, NoneDone, OpensJob}
use Rattle.fdpic_cmd.specs.Program.{ProgramMeans, Lists, load_failure}
use Rattle.fdpic_cmd.proofs.FoundFiles.{found, before, found_by}
use Rattle.fdpic_cmd.proofs.SlotListings.{given_error as refused_loading}

pub opened : (told : Files) (name bytes : List ℕ) (job : Job) → IsFile told name bytes → IsJob bytes job → IsJobFile told name job
opened told name bytes job file is = record { bytes = bytes; file = file; is = is }

-- what is done with a text that is a job or isn't
abbrev OnText : (Job → Outcome → Type 0) → List ℕ → Outcome → Type 0
OnText means bytes o = OnJob means bytes o ⊎ OnNoJob bytes o

-- a text that is no job is refused, whatever is done with jobs
pub no_job : (told : Files) (name bytes : List ℕ) (r : JobRefusal) → IsFile told name bytes → IsRefused bytes r
    → JobMeans NoneDone name told (refuses (NoJob r.line r.kind))
no_job told name bytes r file is =
    found told name bytes (OnText NoneDone) (refuses (NoJob r.line r.kind)) file (inr (record { refusal = r; refused = is; says = refl }))

-- and so is a file that isn't there or too long
pub no_file : (told : Files) (name : List ℕ) (r : Refusal) → OnFile told name Never (refuses r) → JobMeans NoneDone name told (refuses r)
no_file told name r h = before told name (OnText NoneDone) (refuses r) h

module _ (means : Job → Outcome → Type 0) (name : List ℕ) where
  -- the outcome of the job that is in the file
  pub done : (told : Files) (job : Job) (o : Outcome) → IsJobFile told name job → means job o → JobMeans means name told o
  done told job o file h = found told name file.bytes (OnText means) o file.file (inl (record { job = job; is = file.is; meant = h }))

  none_text : (bytes : List ℕ) (o : Outcome) → OnText NoneDone bytes o → OnText means bytes o
  none_text bytes o (inl h) = absurd h.meant
  none_text bytes o (inr h) = inr h

  none_done : (told : Files) (o : Outcome) → JobMeans NoneDone name told o → JobMeans means name told o
  none_done told o h = found_by told name (OnText NoneDone) (OnText means) none_text o h

done_with : (name : List ℕ) (files : Option Files) (job : Job) (o : Outcome) → IfSome files (λ told. IsJobFile told name job)
    → IfSome files (λ told. ProgramMeans job.plan job.program Load told o)
    → IfSome files (λ told. BindJobMeans name told o)
done_with name None job o file h = tt
done_with name (Some told) job o file h = done (λ job o. ProgramMeans job.plan job.program Load told o) name told job o file h

-- what binding the program of a file's job answers
pub given : (name : List ℕ) (files : Option Files) (job : Job) (first old new : ℕ) (result : Result (List ℕ) Failure) → first ≤ old → old ≤ new
    → IfSome files (λ told. IsJobFile told name job)
    → Gives (ProgramMeans job.plan job.program Load) files old new result → Gives (BindJobMeans name) files first new result
given name files job first old new (Ok text) before after file h = done_with name files job (writes text) file h
given name files job first old new (Err (Refused r)) before after file h = done_with name files job (refuses r) file h
given name files job first old new (Err StoreFault) before after file h = rose_earlier first old new before after h
given name files job first old new (Err Memory) before after file h = tt

-- where its program isn't loaded
pub given_error : (name : List ℕ) (files : Option Files) (job : Job) (first old new : ℕ) (e : LoadErr) → first ≤ old → old ≤ new
    → IfSome files (λ told. IsJobFile told name job)
    → Lists job.plan job.program files old new (Err e) → Gives (BindJobMeans name) files first new (Err (load_failure e))
given_error name files job first old new e before after file h =
    given name files job first old new (Err (load_failure e)) before after file (refused_loading files job.plan job.program Load old new e h)

refused_with : (name : List ℕ) (files : Option Files) (r : Refusal) → IfSome files (λ told. JobMeans NoneDone name told (refuses r))
    → IfSome files (λ told. BindJobMeans name told (refuses r))
refused_with name None r h = tt
refused_with name (Some told) r h = none_done (λ job o. ProgramMeans job.plan job.program Load told o) name told (refuses r) h

-- what a file answers that has no job
pub given_none : (name : List ℕ) (files : Option Files) (old new : ℕ) (e : Failure) → OpensJob files name old new (Err e)
    → Gives (BindJobMeans name) files old new (Err e)
given_none name files old new (Refused r) h = refused_with name files r h
given_none name files old new StoreFault h = h
given_none name files old new Memory h = tt
