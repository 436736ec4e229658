-- The run of a job that came to its end, and its journal.
use Rattle.std.proofs.Common.{◌≡◌, ℕ, List, Option, Some, None, sym, ap, ◌∙◌, subst, inl, inr, IfSome, ◌≢◌, ◌<◌, ◌≤◌, ◌^◌, ◌⊎◌, arith}
use Rattle.fd_base.specs.Fetched.{Files}
use Rattle.run_model.specs.declared.job.Job.{Job}
use Rattle.job_text.proofs.SoundJobs.{job_sound}
use Rattle.run_laws.proofs.CourseJournals.{runs_have_journals_lem}
use Rattle.fd_base.specs.Grown.{Grew}
use Rattle.fd_base.specs.Lines.{lines_of}
use Rattle.fdpic_cmd.specs.declared.command.Command.{Command}
use Rattle.fdpic_cmd.specs.declared.command.Command.TheVariants.{Run}
use Rattle.fdpic_cmd.specs.declared.status.Refusal.{Refusal}
use Rattle.fdpic_cmd.specs.declared.status.Refusal.TheVariants.{Load, Job as NoJob}
use Rattle.fdpic_cmd.specs.declared.status.Status.{Status}
use Rattle.fdpic_cmd.specs.declared.status.Status.TheVariants.{Refused}
use Rattle.fdpic_cmd.specs.Answers.{Answers}
use Rattle.fdpic_cmd.specs.Calls.{RanWithCalls}
use Rattle.fdpic_cmd.specs.Ended.{kind_of, own, refusal, CameTo, Outside}
use Rattle.fdpic_cmd.specs.Jobs.{IsJobFile, OnJob, OnNoJob}
use Rattle.fdpic_cmd.specs.Outcome.{Outcome, refuses}
use Rattle.fdpic_cmd.specs.Run.{IsReported, IsStatusOf, JobRunMeans, RunMeans}
use Rattle.fdpic_cmd.proofs.Claims.{CommandMeans, came}
use Rattle.fdpic_cmd.proofs.FoundFiles.{Finds, finds}

-- the file is a job, and this is the outcome of its run
record Runs (file : List ℕ) (told : Files) (o : Outcome) : Type 0 where
  job : Job
  is : IsJobFile told file job
  reported : IsReported job told o

module _ (file : List ℕ) (told : Files) (o : Outcome) (never : (r : Refusal) → o ≢ refuses r) where
  of_job : (bytes : List ℕ) (job : Job) → IsJobFile told file job → JobRunMeans told job o → Runs file told o
  of_job bytes job is (inl h) = record { job = job; is = is; reported = h }
  of_job bytes job is (inr h) = absurd (never (Load h.refusal) h.says)

  of_text : Finds told file (λ bytes o. OnJob (JobRunMeans told) bytes o ⊎ OnNoJob bytes o) o → Runs file told o
  of_text f = elim f.meant as (λ m. Runs file told o) [
    | inl h ↦ of_job f.bytes h.job (record { bytes = f.bytes; file = f.file; is = h.is }) h.meant
    | inr h ↦ absurd (never (NoJob h.refusal.line h.refusal.kind) h.says)
  ]

  runs : RunMeans file told o → Runs file told o
  runs h = of_text (finds told file (λ bytes o. OnJob (JobRunMeans told) bytes o ⊎ OnNoJob bytes o) o never h)

-- a job's memory has fewer than 2^32 bytes
small : (told : Files) (file : List ℕ) (job : Job) → IsJobFile told file job → job.plan.memory < 2 ^ 32
small told file job is =
    let within = (job_sound (lines_of is.bytes) job is.is).memory in
    let most : job.plan.memory ≤ 8388608 = within.high in
    omega arith

no_refusal : (status : Status) (o : Outcome) → kind_of status ≡ own → o.status ≡ status → (r : Refusal) → o ≢ refuses r
no_refusal status o owned is r e =
    let same : status ≡ Refused r = sym is ∙ ap (λ (o : Outcome). o.status) e in
    let kind : own ≡ refusal r = sym owned ∙ ap kind_of same in
    cc

ran : (file : List ℕ) (old new : Outside) (status : Status) (told : Files) → kind_of status ≡ own → CameTo (RunMeans file) old new status told
    → RanWithCalls file old.out new.out status told
ran file old new status told owned m =
    let r : Runs file told m.outcome = runs file told m.outcome (no_refusal status m.outcome owned m.status_is) m.meant in
    record {
      job = r.job;
      is = r.is;
      course = r.reported.course;
      run = r.reported.run;
      status' = subst (λ s. IsStatusOf r.reported.course.answer s) m.status_is r.reported.status';
      grew = subst (λ text. Grew old.out new.out text) r.reported.text' m.text;
      journal = runs_have_journals_lem r.job told r.reported.course (small told file r.job r.is) r.reported.run;
    }

ran_over : (file : List ℕ) (old new : Outside) (status : Status) (files : Option Files) → kind_of status ≡ own
    → IfSome files (CameTo (CommandMeans (Some (Run file))) old new status) → IfSome files (RanWithCalls file old.out new.out status)
ran_over file old new status None owned m = tt
ran_over file old new status (Some told) owned m =
    ran file old new status told owned (record { outcome = m.outcome; meant = m.meant; status_is = m.status_is; text = m.text; put = m.put })

-- the words are `run JOB`, and the status is the command's own
pub calls : (c : Option Command) (old new : Outside) (status : Status) → Answers c old new status → kind_of status ≡ own → (file : List ℕ) → c ≡ Some (Run file)
    → IfSome old.files (RanWithCalls file old.out new.out status)
calls c old new status a owned file is =
    let P : Option Command → Type 0 = λ c. IfSome old.files (CameTo (CommandMeans c) old new status) in
    ran_over file old new status old.files owned (subst P is (came c old new status a owned))
