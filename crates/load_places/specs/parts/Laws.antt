-- What holds of the plans of a consistent loader.
use Rattle.std.specs.Prelude.{ℕ, ◌+◌, ◌^◌, ◌<◌, ◌≤◌, List, Option, length, All, AllPairs}
use Rattle.fd_base.specs.Fetched.{Files}
use Rattle.guest_mem.specs.Memory.{GuestMemory}
use Rattle.load_map.specs.parts.IsLoadMap.{EndsBelow}
use Rattle.load_model.specs.Joined.{Asked}
use Rattle.load_model.specs.declared.plan.TheConstants.{DESCRIPTOR_SIZE}
use Rattle.load_places.specs.parts.Descriptors.{DescriptorsApart, HasDescriptorsPut}
use Rattle.load_places.specs.parts.Modules.{HasModulesPut}
use Rattle.load_places.specs.parts.Placeable.{ArePlaceable}
use Rattle.load_state.specs.declared.plan.GroupPlan.{GroupPlan}
use Rattle.load_state.specs.Accepted.{IsPlan}
use Rattle.load_state.specs.Committed.{IsCommitted}
use Rattle.load_state.specs.Consistent.{IsConsistent, HasModules}
use Rattle.load_state.specs.Loaded.{Loaded, LoadedModules}
use Rattle.load_process.specs.parts.TakenObjects.{IsTaken}
use Rattle.load_places.specs.parts.CommitSteps.{IsEntered}

-- this holds of each plan of a consistent loader
abbrev pub OfPlans : (Loaded → GroupPlan → Type 0) → Type 0
OfPlans P =
    (l : Loaded) (files : Option Files) (root : List ℕ) (asked : Asked) (plan : GroupPlan) → IsConsistent l
    → IsPlan l.modules files root asked plan → All (λ j. IsTaken j.object) plan.joining → P l plan

-- its new modules can be placed
abbrev pub PlansArePlaceable : Type 0
PlansArePlaceable = OfPlans (λ l plan. ArePlaceable l.memory plan.joining plan.maps plan.parts)

-- its slots lie in memory, and apart
pub record HasSlotsApart (l : Loaded) (plan : GroupPlan) : Type 0 where
  pub inside : All (λ e. e.1 + DESCRIPTOR_SIZE ≤ length l.memory.bytes) plan.given
  pub apart : AllPairs DescriptorsApart plan.given

abbrev pub GivenSlotsHaveRoom : Type 0
GivenSlotsHaveRoom = OfPlans HasSlotsApart

-- each placed segment ends below 2^32, where the memory does
pub record MapsEnd : Type 0 where
  pub old : (l : LoadedModules) → HasModules l → l.plan.memory < 2 ^ 32 → All (All EndsBelow) l.maps
  pub new : OfPlans (λ l plan. l.modules.plan.memory < 2 ^ 32 → All (All EndsBelow) plan.maps)

-- the steps of a commit do what a load does
abbrev pub StepsCommit : Type 0
StepsCommit =
    OfPlans (λ l plan. (new : Loaded) (between : GuestMemory) → IsEntered l.modules plan new.modules
    → HasModulesPut plan.joining plan.maps plan.parts l.memory between
    → HasDescriptorsPut new.modules.process plan.maps plan.given between new.memory → IsCommitted l plan new)
