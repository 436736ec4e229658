-- A job has a course or a refusal.
use Rattle.std.proofs.Common.{◌≡◌, ℕ, Bool, true, false, Option, Some, None, refl, sym, subst, inl, inr}
use Rattle.fd_base.specs.Fetched.{Files}
use Rattle.load_model.specs.declared.error.LoadRefusal.{LoadRefusal}
use Rattle.load_model.specs.declared.error.LoadRefusal.TheVariants.{NotBuilt, NotCode}
use Rattle.load_state.specs.Loaded.{Loaded}
use Rattle.load_state.specs.ProgramLoad.{IsProgramLoaded}
use Rattle.run_model.specs.declared.job.Job.{Job}
use Rattle.run_model.specs.Courses.{Course}
use Rattle.placed_code.specs.Places.{entry_point}
use Rattle.run_model.specs.Start.{run_of}
use Rattle.proc_run.specs.RunEnds.{IsRun}
use Rattle.proc_run.specs.RunParts.{schedule_of}
use Rattle.proc_run.specs.StartAnswers.{IsRefusedAs}
use Rattle.load_outcomes.specs.parts.Outcomes.{LoadComesTo}
use Rattle.load_outcomes.proofs.EachLoad.{loads_come_to_lem}
use Rattle.run_laws.specs.parts.RunLaws.{JobComesTo, RunsComeTo}
use Rattle.run_laws.proofs.CoursesEnd.{every_run_ends}

module _ (job : Job) (told : Files) where
  abbrev Comes : Type 0
  Comes = JobComesTo job told

  refused : (lazy : Bool) → job.lazy ≡ lazy → (r : LoadRefusal) → IsRefusedAs lazy job told r → Comes
  refused lazy is r h = inr (r, subst (λ (b : Bool). IsRefusedAs b job told r) (sym is) h)

  by_entry : job.lazy ≡ false → (l : Loaded) → IsProgramLoaded job.plan told job.program l → (entry : Option ℕ) → entry_point l.modules.process l.modules.maps 0 ≡ entry → Comes
  by_entry eager l loads None none = refused false eager (NotCode 0 None) (inr (refl, record { loaded = l; loads = loads; none = none }))
  by_entry eager l loads (Some entry) at =
      let c : Course = run_of l job.steps (schedule_of job.turns) entry in
      let run : IsRun job told c = record { eager = eager; loaded = l; entry = entry; loads = loads; entry' = at; course' = refl } in
      inl (c, run, every_run_ends job told c run)

  by_load : job.lazy ≡ false → LoadComesTo job.plan told job.program → Comes
  by_load eager (inl done) = by_entry eager done.0 done.1 (entry_point (done.0).modules.process (done.0).modules.maps 0) refl
  by_load eager (inr h) = refused false eager h.0 (inl h.1)

  by_mode : (lazy : Bool) → job.lazy ≡ lazy → LoadComesTo job.plan told job.program → Comes
  by_mode true is h = refused true is (NotBuilt job.program) refl
  by_mode false is h = by_load is h

pub runs_come_to_lem : RunsComeTo
runs_come_to_lem = record {
  each = λ job told fits small. by_mode job told job.lazy refl (loads_come_to_lem.programs job.plan told job.program fits small);
  loaded = λ job told h. by_mode job told job.lazy refl h;
}
