-- The run of the job in a file, from what its parts answer.
use Rattle.std.proofs.Common.{◌≡◌, ℕ, ◌≤◌, false, List, Option, Some, None, IfSome, refl, sym, subst, ◌∙◌, inl, inr}
use Rattle.fd_base.specs.Fetched.{Files}
use Rattle.fd_base.proofs.Changing.{rose_earlier}
use Rattle.load_model.specs.declared.error.LoadRefusal.{LoadRefusal}
use Rattle.run_model.specs.declared.job.Job.{Job}
use Rattle.run_laws.specs.parts.RunLaws.{HasEnded}
use Rattle.run_laws.proofs.CoursesEnd.{every_run_ends}
use Rattle.run_model.specs.declared.thread.Turned.{Turned}
use Rattle.run_model.specs.declared.thread.Turned.TheVariants as turned
use Rattle.run_model.specs.Courses.{Course}
use Rattle.run_model.specs.Report.{report_of}
use Rattle.proc_run.specs.declared.end.RunEnd.{RunEnd}
use Rattle.proc_run.specs.declared.end.RunEnd.TheVariants.{Ended, Stopped as StopsRun, Refused as RefusesRun, StoreFault as FailsStore, SinkFault as FailsSink, Memory as LacksMemory}
use Rattle.proc_run.specs.RunEnds.{IsRun, IsDone, IsPart, RunEnds}
use Rattle.proc_run.specs.StartAnswers.{IsStartRefused}
use Rattle.fdpic_cmd.specs.declared.status.Refusal.TheVariants.{Load}
use Rattle.fdpic_cmd.specs.declared.status.Status.{Status}
use Rattle.fdpic_cmd.specs.declared.status.Status.TheVariants.{Done, Stopped}
use Rattle.fdpic_cmd.specs.Ended.{outside, Ends, CameTo, IsPartly}
use Rattle.fdpic_cmd.specs.Jobs.{IsJobFile}
use Rattle.fdpic_cmd.specs.Outcome.{Outcome, refuses}
use Rattle.fdpic_cmd.specs.Run.{IsStatusOf, JobRunMeans, RunMeans, status_of}
use Rattle.fdpic_cmd.proofs.JobFiles.{done}

-- ---- outcomes

-- a run that has ended has a status
status_at : (answer : Turned) → HasEnded answer → (status : Status) × IsStatusOf answer status
status_at turned.Ended h = (Done, refl)
status_at (turned.Stopped why) h = (Stopped why, refl)
status_at turned.Next h = absurd h
status_at turned.Yield h = absurd h
status_at turned.ThreadDone h = absurd h
status_at turned.StoreFault h = absurd h
status_at turned.SinkFault h = absurd h
status_at turned.Memory h = absurd h

-- the outcome of a run with this status
abbrev reports : Status → Course → Outcome
reports status c = record { status = status; text = report_of c.events; output = None }

reported : (job : Job) (told : Files) (c : Course) (status : Status) → IsRun job told c → IsStatusOf c.answer status → JobRunMeans told job (reports status c)
reported job told c status run is = inl (record { course = c; run = run; status' = is; text' = refl; output' = refl })

module _ (name : List ℕ) (job : Job) where
  meant : (told : Files) (o : Outcome) → IsJobFile told name job → JobRunMeans told job o → RunMeans name told o
  meant told o file h = done (JobRunMeans told) name told job o file h

  came : (files : Option Files) (f g h k : ℕ) (out later : Option (List ℕ)) (answer : Turned) (status : Status) → IsStatusOf answer status
      → IfSome files (λ told. IsJobFile told name job) → IfSome files (IsDone job answer out later)
      → IfSome files (CameTo (RunMeans name) (outside files f out h) (outside files g later k) status)
  came None f g h k out later answer status is file d = tt
  came (Some told) f g h k out later answer status is file d =
      let is_of : IsStatusOf d.course.answer status = subst (λ a. IsStatusOf a status) (sym d.answer') is in
      record {
        outcome = reports status d.course;
        meant = meant told (reports status d.course) file (reported job told d.course status d.run is_of);
        status_is = refl;
        text = d.grew;
        put = refl;
      }

  partly : (files : Option Files) (f g h k : ℕ) (out later : Option (List ℕ)) → IfSome files (λ told. IsJobFile told name job)
      → IfSome files (IsPart job out later) → IfSome files (IsPartly (RunMeans name) (outside files f out h) (outside files g later k))
  partly None f g h k out later file p = tt
  partly (Some told) f g h k out later file p =
      let ended : (status : Status) × IsStatusOf p.course.answer status = status_at p.course.answer (every_run_ends job told p.course p.run) in
      record {
        outcome = reports ended.0 p.course;
        meant = meant told (reports ended.0 p.course) file (reported job told p.course ended.0 p.run ended.1);
        text = p.grew;
      }

  unstarted : (files : Option Files) (r : LoadRefusal) → IfSome files (λ told. IsJobFile told name job)
      → IfSome files (λ told. IsStartRefused job told r) → IfSome files (λ told. RunMeans name told (refuses (Load r)))
  unstarted None r file h = tt
  unstarted (Some told) r file h = meant told (refuses (Load r)) file (inr (record { refusal = r; refused = h; says = refl }))

  -- how the command ends by the end of the run
  ran_as : (e : RunEnd) (files : Option Files) (first f g h k : ℕ) (out later : Option (List ℕ)) → first ≤ f → f ≤ g
      → IfSome files (λ told. IsJobFile told name job) → RunEnds e job files f g out later h k
      → Ends false (RunMeans name) (outside files first out h) (outside files g later k) (status_of e)
  ran_as Ended files first f g h k out later before after file r = came files first g h k out later turned.Ended Done refl file r
  ran_as (StopsRun why) files first f g h k out later before after file r =
      came files first g h k out later (turned.Stopped why) (Stopped why) refl file r
  ran_as (RefusesRun q) files first f g h k out later before after file r = (r.0, refl, unstarted files q file r.1)
  ran_as FailsStore files first f g h k out later before after file r = (inl r.0, rose_earlier first f g before after r.1)
  ran_as FailsSink files first f g h k out later before after file r = (inr (partly files first g h k out later file r.1), r.0)
  ran_as LacksMemory files first f g h k out later before after file (inl same) = inl same
  ran_as LacksMemory files first f g h k out later before after file (inr p) = inr (partly files first g h k out later file p)

pub ran : (name : List ℕ) (job : Job) (e : RunEnd) (status : Status) (files mid last : Option Files) (first f g h k : ℕ) (out later : Option (List ℕ))
    → status ≡ status_of e → mid ≡ files → last ≡ mid → first ≤ f → f ≤ g
    → IfSome files (λ told. IsJobFile told name job) → RunEnds e job mid f g out later h k
    → Ends false (RunMeans name) (outside files first out h) (outside last g later k) status
ran name job e status files mid last first f g h k out later is same stays before after file r =
    let again : RunEnds e job files f g out later h k = subst (λ m. RunEnds e job m f g out later h k) same r in
    let P : Option Files → Type 0 = λ m. Ends false (RunMeans name) (outside files first out h) (outside m g later k) (status_of e) in
    let Q : Status → Type 0 = λ s. Ends false (RunMeans name) (outside files first out h) (outside last g later k) s in
    subst Q (sym is) (subst P (sym (stays ∙ same)) (ran_as name job e files first f g h k out later before after file again))
