-- A job has one course or one refusal.
use Rattle.std.proofs.Common.{◌≡◌, ℕ, Bool, true, false, Some, None, inl, inr, ap, sym, subst, ◌∙◌}
use Rattle.fd_base.specs.Fetched.{Files}
use Rattle.load_laws.proofs.SameLoads.{loads_determined}
use Rattle.load_model.specs.declared.error.LoadRefusal.{LoadRefusal}
use Rattle.load_state.specs.Loaded.{Loaded}
use Rattle.load_state.specs.ProgramLoad.{IsLoadRefused, IsProgramLoaded}
use Rattle.run_model.specs.declared.job.Job.{Job}
use Rattle.run_model.specs.Courses.{Course}
use Rattle.placed_code.specs.Places.{entry_point}
use Rattle.run_model.specs.Start.{run_of}
use Rattle.proc_run.specs.RunEnds.{IsRun}
use Rattle.proc_run.specs.StartAnswers.{HasNoEntry, IsRefusedAs}
use Rattle.proc_run.specs.RunParts.{schedule_of}
use Rattle.run_laws.specs.parts.RunLaws.{RunsAreDetermined}

module _ (job : Job) (told : Files) where
  -- ---- the entry point

  entries_same : (l k : Loaded) → IsProgramLoaded job.plan told job.program l → IsProgramLoaded job.plan told job.program k
      → entry_point l.modules.process l.modules.maps 0 ≡ entry_point k.modules.process k.modules.maps 0
  entries_same l k p q = ap (λ (x : Loaded). entry_point x.modules.process x.modules.maps 0) (loads_determined.same job.plan told job.program l k p q)

  -- a program has an entry point or none
  no_entry : (l : Loaded) (entry : ℕ) → IsProgramLoaded job.plan told job.program l → entry_point l.modules.process l.modules.maps 0 ≡ Some entry → HasNoEntry job told → ⊥
  no_entry l entry p is h =
      let never : Some entry ≡ None = sym is ∙ entries_same l h.loaded p h.loads ∙ h.none in
      cc

  -- ---- one course

  same_course : (c d : Course) → IsRun job told c → IsRun job told d → c ≡ d
  same_course c d p q =
      let both : Some p.entry ≡ Some q.entry = sym p.entry' ∙ entries_same p.loaded q.loaded p.loads q.loads ∙ q.entry' in
      let entry : p.entry ≡ q.entry = cc in
      p.course'
      ∙ ap (λ (l : Loaded). run_of l job.steps (schedule_of job.turns) p.entry) (loads_determined.same job.plan told job.program p.loaded q.loaded p.loads q.loads)
      ∙ ap (run_of q.loaded job.steps (schedule_of job.turns)) entry
      ∙ sym q.course'

  -- ---- a program that is loaded isn't refused

  loaded_or_refused : (l : Loaded) (r : LoadRefusal) → IsProgramLoaded job.plan told job.program l → IsLoadRefused job.plan told job.program r → ⊥
  loaded_or_refused l r p h = loads_determined.exclusive job.plan told job.program l r p h

  not_refused : (c : Course) (r : LoadRefusal) → IsRun job told c → IsRefusedAs false job told r → ⊥
  not_refused c r p (inl h) = loaded_or_refused p.loaded r p.loads h
  not_refused c r p (inr h) = no_entry p.loaded p.entry p.loads p.entry' h.1

  -- ---- one refusal

  one_by : (lazy : Bool) (r s : LoadRefusal) → IsRefusedAs lazy job told r → IsRefusedAs lazy job told s → r ≡ s
  one_by true r s h k = h ∙ sym k
  one_by false r s (inl h) (inl k) = loads_determined.same_refusal job.plan told job.program r s h k
  one_by false r s (inl h) (inr k) = absurd (loaded_or_refused k.1.loaded r k.1.loads h)
  one_by false r s (inr h) (inl k) = absurd (loaded_or_refused h.1.loaded s h.1.loads k)
  one_by false r s (inr h) (inr k) = h.0 ∙ sym k.0

pub runs_determined : RunsAreDetermined
runs_determined = record {
  same = same_course;
  exclusive = λ job told c r p h. not_refused job told c r p (subst (λ (lazy : Bool). IsRefusedAs lazy job told r) p.eager h);
  one_refusal = λ job told r s h k. one_by job told job.lazy r s h k;
}
