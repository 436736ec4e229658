-- What a load comes to is determined by what was loaded before, the files, and the name.
use Rattle.std.specs.Prelude.{◌≡◌, ℕ, List, Some}
use Rattle.fd_base.specs.Fetched.{Files}
use Rattle.load_model.specs.declared.error.LoadRefusal.{LoadRefusal}
use Rattle.load_model.specs.declared.plan.MemPlan.{MemPlan}
use Rattle.load_model.specs.Joined.{Asked}
use Rattle.load_state.specs.declared.plan.GroupPlan.{GroupPlan}
use Rattle.load_state.specs.Accepted.{IsPlan}
use Rattle.load_state.specs.Loaded.{Loaded, LoadedModules}
use Rattle.load_state.specs.ProgramLoad.{IsProgramLoaded, IsLoadRefused}
use Rattle.load_state.specs.Refused.{IsRefused}

-- two plans do the same; the bytes of their segments are told by their images
pub record SamePlan (g h : GroupPlan) : Type 0 where
  pub root' : g.root ≡ h.root
  pub joining' : g.joining ≡ h.joining
  pub scope' : g.scope ≡ h.scope
  pub global' : g.global ≡ h.global
  pub lazy' : g.lazy ≡ h.lazy
  pub unbound' : g.unbound ≡ h.unbound
  pub targets' : g.targets ≡ h.targets
  pub tables' : g.tables ≡ h.tables
  pub addrs' : g.addrs ≡ h.addrs
  pub maps' : g.maps ≡ h.maps
  pub adopted' : g.adopted ≡ h.adopted
  pub given' : g.given ≡ h.given

-- a load has one plan, or one refusal, and not both
pub record PlansAreDetermined : Type 0 where
  pub same_plan : (l : LoadedModules) (told : Files) (name : List ℕ) (asked : Asked) (g h : GroupPlan)
      → IsPlan l (Some told) name asked g → IsPlan l (Some told) name asked h → SamePlan g h
  pub exclusive : (l : LoadedModules) (told : Files) (name : List ℕ) (asked : Asked) (g : GroupPlan) (r : LoadRefusal)
      → IsPlan l (Some told) name asked g → ¬ IsRefused l (Some told) name r
  pub same_refusal : (l : LoadedModules) (told : Files) (name : List ℕ) (r s : LoadRefusal)
      → IsRefused l (Some told) name r → IsRefused l (Some told) name s → r ≡ s

-- The same of the load of a program: what is loaded is one, to the last byte, whatever the memory was before.
pub record LoadsAreDetermined : Type 0 where
  pub same : (plan : MemPlan) (told : Files) (name : List ℕ) (l k : Loaded)
      → IsProgramLoaded plan told name l → IsProgramLoaded plan told name k → l ≡ k
  pub exclusive : (plan : MemPlan) (told : Files) (name : List ℕ) (l : Loaded) (r : LoadRefusal)
      → IsProgramLoaded plan told name l → ¬ IsLoadRefused plan told name r
  pub same_refusal : (plan : MemPlan) (told : Files) (name : List ℕ) (r s : LoadRefusal)
      → IsLoadRefused plan told name r → IsLoadRefused plan told name s → r ≡ s
