-- What loads come to over told files.
use Rattle.std.specs.Prelude.{◌⊎◌, ◌^◌, ◌<◌, ℕ, List, Some}
use Rattle.fd_base.specs.Fetched.{Files}
use Rattle.load_model.specs.Joined.{Asked}
use Rattle.load_model.specs.declared.error.LoadRefusal.{LoadRefusal}
use Rattle.load_model.specs.declared.plan.MemPlan.{MemPlan}
use Rattle.load_model.specs.Plan.{Fits}
use Rattle.load_state.specs.declared.plan.GroupPlan.{GroupPlan}
use Rattle.load_state.specs.Accepted.{IsPlan}
use Rattle.load_state.specs.Committed.{IsCommitted}
use Rattle.load_state.specs.Consistent.{IsConsistent}
use Rattle.load_state.specs.Loaded.{Loaded, LoadedModules}
use Rattle.load_state.specs.ProgramLoad.{IsLoadRefused, IsProgramLoaded}
use Rattle.load_state.specs.Refused.{IsRefused}

-- a load has a plan, or a refusal
abbrev pub HasPlanOrRefusal : LoadedModules → Files → List ℕ → Asked → Type 0
HasPlanOrRefusal l told root asked = ((plan : GroupPlan) × IsPlan l (Some told) root asked plan) ⊎ ((r : LoadRefusal) × IsRefused l (Some told) root r)

-- the load of a program is done, or refused
abbrev pub LoadComesTo : MemPlan → Files → List ℕ → Type 0
LoadComesTo plan told name = ((l : Loaded) × IsProgramLoaded plan told name l) ⊎ ((r : LoadRefusal) × IsLoadRefused plan told name r)

pub record LoadsComeTo : Type 0 where
  -- each load of a consistent loader has a plan, or a refusal
  pub planned : (l : Loaded) (told : Files) (root : List ℕ) (asked : Asked) → IsConsistent l → HasPlanOrRefusal l.modules told root asked
  -- each plan can be carried out
  pub committed : (l : Loaded) (told : Files) (root : List ℕ) (asked : Asked) (plan : GroupPlan) → IsConsistent l → IsPlan l.modules (Some told) root asked plan
      → (new : Loaded) × IsCommitted l plan new
  -- the load of each program in a memory that is large enough for its parts is done, or refused
  pub programs : (plan : MemPlan) (told : Files) (name : List ℕ) → Fits plan → plan.memory < 2 ^ 32 → LoadComesTo plan told name
