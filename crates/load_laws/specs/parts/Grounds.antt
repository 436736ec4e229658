-- What the tables rest on after a load.
use Rattle.std.specs.Prelude.{◌≡◌, ◌≢◌, ℕ, Some, All, Contains}
use Rattle.std.specs.FinMap.{get}
use Rattle.elf_model.specs.declared.func.Func.{Func}
use Rattle.func_desc.specs.Pool.{IsSlot}
use Rattle.load_model.specs.Plan.{Fits}
use Rattle.load_model.specs.Validity.{IsValid}
use Rattle.load_state.specs.declared.plan.GroupPlan.{GroupPlan}
use Rattle.load_state.specs.Committed.{IsCommitted}
use Rattle.load_state.specs.Consistent.{HasModules, HasRanges, HoldsTables, HasDescriptors}
use Rattle.load_state.specs.Loaded.{Loaded, pool_of}
use Rattle.load_map.specs.Maps.{map_at}
use Rattle.load_laws.specs.parts.Premises.{HasFreeNumber, IsExtended}

-- a load that was done over modules that stand
pub record IsDone (l : Loaded) (plan : GroupPlan) (new : Loaded) : Type 0 where
  pub fits : Fits l.modules.plan
  pub valid : IsValid l.modules.process
  pub mods : HasModules l.modules
  pub news : HasModules new.modules
  pub ranges : HasRanges new.modules
  pub ext : IsExtended l.modules new.modules plan.joining plan.scope
  pub free : All (HasFreeNumber l.modules.process) plan.joining
  pub stays : (m : ℕ) → All (λ j. j.number ≢ m) plan.joining → map_at new.modules.maps m ≡ map_at l.modules.maps m
  pub slots : (f : Func) (a : ℕ) → Contains plan.given (f, a) → IsSlot (pool_of l.modules.plan l.modules.addrs) a
  pub committed : IsCommitted l plan new

-- the functions that get a descriptor's address in a load
pub record IsGiven (l : Loaded) (plan : GroupPlan) (new : Loaded) : Type 0 where
  pub held' : (f : Func) (a : ℕ) → Contains plan.given (f, a) → get new.modules.addrs f ≡ Some a
  pub unused : (f g : Func) (a : ℕ) → Contains plan.given (f, a) → get l.modules.addrs g ≢ Some a
  pub elsewhere : (f : Func) (a : ℕ) → Contains plan.adopted (f, a) → ¬ IsSlot (pool_of l.modules.plan l.modules.addrs) a

-- the stubs, the load maps and the slots of descriptors after a load
abbrev pub TablesStay : Type 0
TablesStay = (l new : Loaded) (plan : GroupPlan) → IsDone l plan new → IsGiven l plan new → HasDescriptors l.modules → HoldsTables l → HoldsTables new
