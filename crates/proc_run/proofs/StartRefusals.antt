-- Why no process starts, from what the load of its program answers.
use Rattle.std.proofs.Common.{◌≡◌, ℕ, List, Bool, true, false, Option, Some, None, IfSome, sym, ap, subst, inl, inr, refl}
use Rattle.fd_base.specs.Fetched.{Files}
use Rattle.load_model.specs.declared.error.LoadErr.{LoadErr}
use Rattle.load_model.specs.declared.error.LoadErr.TheVariants.{Refused, StoreFault, Memory as Lacks}
use Rattle.load_model.specs.declared.error.LoadRefusal.{LoadRefusal}
use Rattle.load_model.specs.declared.error.LoadRefusal.TheVariants.{NotBuilt, NotCode}
use Rattle.load_model.specs.Explains.{Explains}
use Rattle.load_state.specs.Loaded.{Loaded}
use Rattle.load_state.specs.ProgramLoad.{IsCause, LoadsProgram}
use Rattle.run_model.specs.declared.job.Job.{Job}
use Rattle.placed_code.specs.Places.{entry_point}
use Rattle.proc_run.specs.StartAnswers.{ExplainsStart, IsRefusedAs}

as_refused : (job : Job) (told : Files) (r : LoadRefusal) (lazy : Bool) → lazy ≡ false → IsRefusedAs false job told r → IsRefusedAs lazy job told r
as_refused job told r true e h = absurd cc
as_refused job told r false e h = h

-- the load is refused
load_is_refused : (files : Option Files) (job : Job) (r : LoadRefusal) → job.lazy ≡ false → IsCause job.plan job.program files r
    → IfSome files (λ told. IsRefusedAs job.lazy job told r)
load_is_refused None job r eager h = tt
load_is_refused (Some told) job r eager h = as_refused job told r job.lazy eager (inl h)

pub not_loaded : (files : Option Files) (job : Job) (old new : ℕ) (e : LoadErr) → job.lazy ≡ false
    → Explains (IsCause job.plan job.program files) old new e → ExplainsStart job files old new e
not_loaded files job old new (Refused r) eager h = load_is_refused files job r eager h
not_loaded files job old new StoreFault eager h = h
not_loaded files job old new Lacks eager h = tt

-- slots are not bound at their first calls
pub not_built : (files : Option Files) (job : Job) (old new : ℕ) (program : List ℕ) → job.lazy ≡ true → program ≡ job.program
    → ExplainsStart job files old new (Refused (NotBuilt program))
not_built None job old new program lazy is = tt
not_built (Some told) job old new program lazy is = by job.lazy lazy
  where
    by : (lazy : Bool) → lazy ≡ true → IsRefusedAs lazy job told (NotBuilt program)
    by true e = ap NotBuilt is
    by false e = absurd cc

-- there is no entry point
pub no_entry : (files : Option Files) (job : Job) (old new : ℕ) (l : Loaded) → job.lazy ≡ false → LoadsProgram job.plan job.program files l
    → entry_point l.modules.process l.modules.maps 0 ≡ None → ExplainsStart job files old new (Refused (NotCode 0 None))
no_entry None job old new l eager loads none = tt
no_entry (Some told) job old new l eager loads none =
    as_refused job told (NotCode 0 None) job.lazy eager (inr (refl, record { loaded = l; loads = loads; none = none }))

pub no_entry_as : (files : Option Files) (job : Job) (old new : ℕ) (l : Loaded) (e : LoadErr) → job.lazy ≡ false → LoadsProgram job.plan job.program files l
    → (e ≡ Refused (NotCode 0 None)) × (entry_point l.modules.process l.modules.maps 0 ≡ None) → ExplainsStart job files old new e
no_entry_as files job old new l e eager loads h = subst (ExplainsStart job files old new) (sym h.0) (no_entry files job old new l eager loads h.1)
