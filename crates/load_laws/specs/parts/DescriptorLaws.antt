-- Descriptors' addresses after loads (Arm FDPIC ABI, "Function Descriptors": a function's descriptor has one address,
-- which tells functions apart).
use Rattle.std.specs.Prelude.{◌≡◌, ◌≢◌, ℕ, List, Option, Some, None, All, Contains}
use Rattle.std.specs.FinMap.{get}
use Rattle.load_map.specs.declared.entry.MapEntry.{MapEntry}
use Rattle.fd_base.specs.Fetched.{Files}
use Rattle.elf_model.specs.declared.func.Func.{Func}
use Rattle.elf_model.specs.Sound.{IsSound}
use Rattle.func_desc.specs.Pool.{IsSlot}
use Rattle.placement.specs.Placed.{Placed}
use Rattle.load_model.specs.Joined.{Asked}
use Rattle.load_model.specs.declared.module.Joining.{Joining}
use Rattle.load_model.specs.Descriptors.{descriptors_after}
use Rattle.load_model.specs.Plan.{Fits, low_of, high_of}
use Rattle.load_process.specs.parts.TakenObjects.{IsTaken}
use Rattle.load_state.specs.declared.plan.GroupPlan.{GroupPlan}
use Rattle.load_state.specs.Accepted.{IsPlan, all_items, maps_after, adopted_by, given_by}
use Rattle.load_state.specs.Committed.{IsCommitted}
use Rattle.load_state.specs.Consistent.{IsConsistent, HasModules, HasRanges, HasDescriptors}
use Rattle.load_state.specs.Loaded.{Loaded, LoadedModules, pool_of}
use Rattle.load_laws.specs.parts.Premises.{HaveOwnNumbers, HasFreeNumber, IsExtended}

-- the new modules' own descriptors can be adopted: no function has their addresses, no slot has them, and no two
-- functions share one
pub record AreAdoptable (l : LoadedModules) (adopted : List (Func × ℕ)) : Type 0 where
  pub unused : (f g : Func) (a : ℕ) → Contains adopted (f, a) → get l.addrs g ≢ Some a
  pub no_slot : (f : Func) (a : ℕ) → Contains adopted (f, a) → ¬ IsSlot (pool_of l.plan l.addrs) a
  pub distinct : (f g : Func) (a : ℕ) → Contains adopted (f, a) → Contains adopted (g, a) → f ≡ g
  pub fresh : (f : Func) (a : ℕ) → Contains adopted (f, a) → get l.addrs f ≡ None

-- the new modules' own descriptors, where the new modules are placed
abbrev pub AdoptionsAreFree : Type 0
AdoptionsAreFree =
    (l : LoadedModules) (joining : List Joining) (scope addrs : List ℕ) (maps : List (List MapEntry)) (adopted : List (Func × ℕ))
    → Fits l.plan → HasModules l → HasRanges l → HasDescriptors l
    → HaveOwnNumbers joining → All (HasFreeNumber l.process) joining → All (λ j. IsSound j.object) joining
    → Placed (low_of l.plan) (high_of l.plan) l.held (all_items l.plan.places joining) addrs
    → maps ≡ maps_after l.maps joining addrs → adopted ≡ adopted_by l joining scope maps
    → AreAdoptable l adopted

-- the descriptors after a load
abbrev pub DescriptorsStay : Type 0
DescriptorsStay =
    (l new : LoadedModules) (joining : List Joining) (scope addrs : List ℕ) (adopted given : List (Func × ℕ))
    → Fits l.plan → HasModules l → HasRanges l → HasDescriptors l → IsExtended l new joining scope
    → HaveOwnNumbers joining → All (HasFreeNumber l.process) joining → All (λ j. IsSound j.object) joining
    → Placed (low_of l.plan) (high_of l.plan) l.held (all_items l.plan.places joining) addrs
    → new.plan ≡ l.plan → new.maps ≡ maps_after l.maps joining addrs
    → adopted ≡ adopted_by l joining scope new.maps → given ≡ given_by l joining scope
    → ((f : Func) → get new.addrs f ≡ descriptors_after (get l.addrs) adopted given f)
    → HasDescriptors new

-- each function that had an address keeps it, and no two functions share one
pub record KeepsAddresses (old new : LoadedModules) : Type 0 where
  pub kept : (f : Func) (a : ℕ) → get old.addrs f ≡ Some a → get new.addrs f ≡ Some a
  pub distinct : (f g : Func) (a : ℕ) → get new.addrs f ≡ Some a → get new.addrs g ≡ Some a → f ≡ g

-- the load of a plan keeps addresses
abbrev pub AddressesStay : Type 0
AddressesStay =
    (l new : Loaded) (files : Option Files) (root : List ℕ) (asked : Asked) (plan : GroupPlan) → IsConsistent l
    → IsPlan l.modules files root asked plan → All (λ j. IsTaken j.object) plan.joining → IsCommitted l plan new → KeepsAddresses l.modules new.modules
