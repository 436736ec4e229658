-- A program that is loaded over a memory plan with every slot bound, and what is said of it.
use Rattle.std.specs.Prelude.{◌≡◌, ℕ, ◌⊎◌, List, Option, Result, Ok, Err, IfSome}
use Rattle.fd_base.specs.Fetched.{Files}
use Rattle.load_model.specs.declared.error.LoadErr.{LoadErr}
use Rattle.load_model.specs.declared.error.LoadErr.TheVariants.{Refused, StoreFault, Memory}
use Rattle.load_model.specs.declared.error.LoadRefusal.{LoadRefusal}
use Rattle.load_model.specs.declared.plan.MemPlan.{MemPlan}
use Rattle.load_model.specs.Explains.{Explains}
use Rattle.load_state.specs.Loaded.{Loaded}
use Rattle.load_state.specs.ProgramLoad.{IsCause, IsLoadRefused, IsProgramLoaded}
use Rattle.fdpic_cmd.specs.declared.status.Failure.{Failure}
use Rattle.fdpic_cmd.specs.declared.status.Failure.TheVariants.{Refused as Refuses, StoreFault as Fails, Memory as Lacks}
use Rattle.fdpic_cmd.specs.declared.status.Refusal.{Refusal}
use Rattle.fdpic_cmd.specs.declared.status.Refusal.TheVariants.{Load}
use Rattle.fdpic_cmd.specs.Outcome.{Outcome, writes, refuses}
use Rattle.fdpic_cmd.specs.Slots.{slot_listing}

-- the program is loaded, and the slots of the process are listed
pub record IsBound (plan : MemPlan) (name : List ℕ) (told : Files) (o : Outcome) : Type 0 where
  pub loaded : Loaded
  pub loads : IsProgramLoaded plan told name loaded
  pub lists : o ≡ writes (slot_listing loaded.modules.process loaded.modules.maps)

-- loading is refused, and this is said of the refusal
pub record IsUnbound (plan : MemPlan) (name : List ℕ) (said : LoadRefusal → Refusal) (told : Files) (o : Outcome) : Type 0 where
  pub refusal : LoadRefusal
  pub refused : IsLoadRefused plan told name refusal
  pub says : o ≡ refuses (said refusal)

abbrev pub ProgramMeans : MemPlan → List ℕ → (LoadRefusal → Refusal) → Files → Outcome → Type 0
ProgramMeans plan name said told o = IsBound plan name told o ⊎ IsUnbound plan name said told o

-- the failure of a command, where this is said of a refusal
abbrev pub failure_by : (LoadRefusal → Refusal) → LoadErr → Failure
failure_by said (Refused r) = Refuses (said r)
failure_by said StoreFault = Fails
failure_by said Memory = Lacks

-- that of a command which says every refusal of the load
abbrev pub load_failure : LoadErr → Failure
load_failure = failure_by Load

-- ---- what the parts of the program answer

-- the text of the slots, or why there is none
abbrev pub Lists : MemPlan → List ℕ → Option Files → ℕ → ℕ → Result (List ℕ) LoadErr → Type 0
Lists plan name files old new (Ok text) = IfSome files (λ told. IsBound plan name told (writes text))
Lists plan name files old new (Err e) = Explains (IsCause plan name files) old new e
