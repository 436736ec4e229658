-- Each command over told files has an outcome.
use Rattle.std.proofs.Common.{◌≡◌, ℕ, ◌^◌, ◌<◌, ◌≤◌, ◌⊎◌, Bool, true, false, List, length, Option, Some, None, Result, Ok, Err, MatchBool, nat_lt, refl, inl, inr, arith}
use Rattle.std.specs.FinMap.{get}
use Rattle.fd_base.specs.Fetched.{Files}
use Rattle.fd_base.specs.Lines.{lines_of}
use Rattle.load_model.specs.declared.error.LoadRefusal.{LoadRefusal}
use Rattle.load_model.specs.declared.plan.MemPlan.{MemPlan}
use Rattle.load_model.specs.Plan.{Fits}
use Rattle.run_model.specs.declared.job.Job.{Job}
use Rattle.run_model.specs.declared.thread.Turned.{Turned}
use Rattle.run_model.specs.declared.thread.Turned.TheVariants as turned
use Rattle.run_model.specs.Courses.{Course}
use Rattle.run_model.specs.Report.{report_of}
use Rattle.job_text.specs.declared.refusal.JobRefusal.{JobRefusal}
use Rattle.job_text.specs.Format.{first_format}
use Rattle.job_text.specs.Job.{job_of}
use Rattle.job_text.proofs.SoundJobs.{job_sound}
use Rattle.load_outcomes.specs.parts.Outcomes.{LoadComesTo}
use Rattle.load_outcomes.proofs.EachLoad.{loads_come_to_lem}
use Rattle.run_laws.specs.parts.RunLaws.{HasEnded}
use Rattle.run_laws.proofs.RunsComeTo.{runs_come_to_lem}
use Rattle.fdpic_cmd.specs.declared.command.Command.TheVariants.{As, Bind, BindJob, Code, Link, Run, Show}
use Rattle.fdpic_cmd.specs.declared.status.Refusal.{Refusal}
use Rattle.fdpic_cmd.specs.declared.status.Refusal.TheVariants.{Job as NoJob, Load, TooLong, NoFile}
use Rattle.fdpic_cmd.specs.declared.status.Status.{Status}
use Rattle.fdpic_cmd.specs.declared.status.Status.TheVariants.{Done, Stopped}
use Rattle.a32_asm.specs.Text.{assembled}
use Rattle.fdpic_cmd.specs.Assemble.{AsMeans, file_of}
use Rattle.fdpic_cmd.specs.Link.{linked_file}
use Rattle.fdpic_cmd.specs.Bind.{plan_of, refusal_of}
use Rattle.fdpic_cmd.specs.Files.{IsFile, OnFile, OnFound}
use Rattle.fdpic_cmd.specs.Code.{code_listing}
use Rattle.fdpic_cmd.specs.Jobs.{IsJobFile, JobMeans, OnJob, OnNoJob}
use Rattle.elf_listing.specs.Shown.{listing_of}
use Rattle.fdpic_cmd.specs.Outcome.{Outcome, refuses, writes, put_as}
use Rattle.fdpic_cmd.specs.Program.{ProgramMeans}
use Rattle.fdpic_cmd.specs.Run.{IsStatusOf, JobRunMeans}
use Rattle.fdpic_cmd.specs.Show.{CodeMeans, ShowMeans, listed, shown_as}
use Rattle.fdpic_cmd.specs.Slots.{slot_listing}
use Rattle.fdpic_cmd.specs.parts.Outcomes.{CommandsComeTo}

-- ---- a file

module _ (told : Files) (name : List ℕ) (means : List ℕ → Outcome → Type 0) (of_bytes : (bytes : List ℕ) → IsFile told name bytes → (o : Outcome) × means bytes o) where
  by_length : (bytes : List ℕ) (long : Bool) → get told name ≡ Some bytes → nat_lt 4194304 (length bytes) ≡ long
      → (o : Outcome) × MatchBool long (o ≡ refuses (TooLong name)) (means bytes o)
  by_length bytes true is long = (refuses (TooLong name), refl)
  by_length bytes false is long = of_bytes bytes (record { found = is; short = grind arith })

  by_file : (file : Option (List ℕ)) → get told name ≡ file → (o : Outcome) × OnFound name means file o
  by_file None is = (refuses (NoFile name), refl)
  by_file (Some bytes) is = by_length bytes (nat_lt 4194304 (length bytes)) is refl

  -- what is done with a file comes to something, where what is done with its bytes does
  on_file : (o : Outcome) × OnFile told name means o
  on_file = by_file (get told name) refl

as_comes_to : (told : Files) (out input : List ℕ) → (o : Outcome) × AsMeans out input told o
as_comes_to told out input =
    on_file told input (λ text o. o ≡ put_as out (file_of (assembled text))) (λ text file. (put_as out (file_of (assembled text)), refl))

code_comes_to : (told : Files) (name : List ℕ) → (o : Outcome) × CodeMeans name told o
code_comes_to told name = on_file told name (λ bytes o. o ≡ listed code_listing name bytes) (λ bytes file. (listed code_listing name bytes, refl))

show_comes_to : (told : Files) (name : List ℕ) → (o : Outcome) × ShowMeans name told o
show_comes_to told name =
    on_file told name (λ bytes o. o ≡ shown_as name (listing_of bytes)) (λ bytes file. (shown_as name (listing_of bytes), refl))

-- ---- a program

program_comes_to : (plan : MemPlan) (name : List ℕ) (said : LoadRefusal → Refusal) (told : Files) → LoadComesTo plan told name → (o : Outcome) × ProgramMeans plan name said told o
program_comes_to plan name said told (inl h) =
    (writes (slot_listing (h.0).modules.process (h.0).modules.maps), inl (record { loaded = h.0; loads = h.1; lists = refl }))
program_comes_to plan name said told (inr h) = (refuses (said h.0), inr (record { refusal = h.0; refused = h.1; says = refl }))

-- ---- a job

status_comes_to : (answer : Turned) → HasEnded answer → (status : Status) × IsStatusOf answer status
status_comes_to turned.Next h = absurd h
status_comes_to turned.Yield h = absurd h
status_comes_to turned.ThreadDone h = absurd h
status_comes_to turned.Ended h = (Done, refl)
status_comes_to (turned.Stopped why) h = (Stopped why, refl)
status_comes_to turned.StoreFault h = absurd h
status_comes_to turned.SinkFault h = absurd h
status_comes_to turned.Memory h = absurd h

-- the parts of the memory of each job in a file fit
job_load : (told : Files) (name : List ℕ) (job : Job) → IsJobFile told name job → Fits job.plan × (job.plan.memory < 2 ^ 32)
job_load told name job file =
    let sound = job_sound (lines_of file.bytes) job file.is in
    let high : job.plan.memory ≤ 8388608 = sound.memory.high in
    (sound.fits, omega arith)

run_comes_to : (told : Files) (job : Job) → Fits job.plan → job.plan.memory < 2 ^ 32 → (o : Outcome) × JobRunMeans told job o
run_comes_to told job fits small =
    elim (runs_come_to_lem.each job told fits small) [
      | inl ran ↦
          let c : Course = ran.0 in
          let status = status_comes_to c.answer ran.2 in
          (record { status = status.0; text = report_of c.events; output = None }, inl (record { course = c; run = ran.1; status' = status.1; text' = refl; output' = refl }))
      | inr refused ↦ (refuses (Load refused.0), inr (record { refusal = refused.0; refused = refused.1; says = refl }))
    ]

module _ (told : Files) (name : List ℕ) (means : Job → Outcome → Type 0) (of_job : (job : Job) → IsJobFile told name job → (o : Outcome) × means job o) where
  by_text : (bytes : List ℕ) → IsFile told name bytes → (answer : Result Job JobRefusal) → job_of first_format (lines_of bytes) ≡ answer
      → (o : Outcome) × (OnJob means bytes o ⊎ OnNoJob bytes o)
  by_text bytes file (Ok job) is =
      let done = of_job job (record { bytes = bytes; file = file; is = is }) in
      (done.0, inl (record { job = job; is = is; meant = done.1 }))
  by_text bytes file (Err r) is = (refuses (NoJob r.line r.kind), inr (record { refusal = r; refused = is; says = refl }))

  job_comes_to : (o : Outcome) × JobMeans means name told o
  job_comes_to =
      on_file told name (λ bytes o. OnJob means bytes o ⊎ OnNoJob bytes o) (λ bytes file. by_text bytes file (job_of first_format (lines_of bytes)) refl)

-- ---- the commands

-- the parts of the memory of a command that names no job fit
plan_fits : (file : List ℕ) (text data' : ℕ) → Fits (plan_of file text data')
plan_fits file text data' = record { some_threads = omega arith; some_processes = omega arith; stacks = omega arith; modules = omega arith }

pub commands_come_to_lem : CommandsComeTo
commands_come_to_lem (As out input) told = as_comes_to told out input
commands_come_to_lem (Bind file text data') told =
    program_comes_to (plan_of file text data') file (refusal_of file) told (loads_come_to_lem.programs (plan_of file text data') told file (plan_fits file text data') (omega arith))
commands_come_to_lem (BindJob file) told =
    job_comes_to told file (λ job o. ProgramMeans job.plan job.program Load told o)
    (λ job is. let fits = job_load told file job is in program_comes_to job.plan job.program Load told (loads_come_to_lem.programs job.plan told job.program fits.0 fits.1))
commands_come_to_lem (Code file) told = code_comes_to told file
commands_come_to_lem (Link out mode libs inputs) told = (put_as out (linked_file out mode libs inputs told), refl)
commands_come_to_lem (Run file) told =
    job_comes_to told file (JobRunMeans told) (λ job is. let fits = job_load told file job is in run_comes_to told job fits.0 fits.1)
commands_come_to_lem (Show file) told = show_comes_to told file
