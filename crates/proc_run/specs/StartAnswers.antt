-- What the start of a job comes to, over told files.
use Rattle.std.specs.Prelude.{◌≡◌, ◌⊎◌, ℕ, Bool, true, false, Option, None, IfSome}
use Rattle.fd_base.specs.Fetched.{Files}
use Rattle.load_model.specs.declared.error.LoadErr.{LoadErr}
use Rattle.load_model.specs.declared.error.LoadRefusal.{LoadRefusal}
use Rattle.load_model.specs.declared.error.LoadRefusal.TheVariants.{NotBuilt, NotCode}
use Rattle.load_model.specs.Explains.{Explains}
use Rattle.load_state.specs.Loaded.{Loaded}
use Rattle.load_state.specs.ProgramLoad.{IsLoadRefused, IsProgramLoaded, LoadsProgram}
use Rattle.run_model.specs.declared.job.Job.{Job}
use Rattle.placed_code.specs.Places.{entry_point}
use Rattle.proc_run.specs.BegunProcess.{IsBegun}
use Rattle.proc_run.specs.RunningProcess.{Running}

-- the program is loaded, and has no entry point
pub record HasNoEntry (job : Job) (told : Files) : Type 0 where
  pub loaded : Loaded
  pub loads : IsProgramLoaded job.plan told job.program loaded
  pub none : entry_point loaded.modules.process loaded.modules.maps 0 ≡ None

-- Slots that are bound at their first calls are not built. Otherwise the load is refused, or what is loaded has no entry
-- point, which is tested after all else.
abbrev pub IsRefusedAs : Bool → Job → Files → LoadRefusal → Type 0
IsRefusedAs true job told r = r ≡ NotBuilt job.program
IsRefusedAs false job told r = IsLoadRefused job.plan told job.program r ⊎ ((r ≡ NotCode 0 None) × HasNoEntry job told)

abbrev pub IsStartRefused : Job → Files → LoadRefusal → Type 0
IsStartRefused job told r = IsRefusedAs job.lazy job told r

-- the job's slots are bound when it is loaded, the program is loaded, and its process begins
pub record IsStarted (job : Job) (files : Option Files) (p : Running) : Type 0 where
  pub eager : job.lazy ≡ false
  pub loads : LoadsProgram job.plan job.program files p.state.loaded
  pub begins : IsBegun p.state.loaded job.steps p

-- why no process starts
abbrev pub ExplainsStart : Job → Option Files → ℕ → ℕ → LoadErr → Type 0
ExplainsStart job files old new e = Explains (λ r. IfSome files (λ told. IsStartRefused job told r)) old new e
