-- What holds after loads.
use Rattle.std.specs.Prelude.{◌≡◌, ℕ, ◌≤◌, List, length, All}
use Rattle.std.specs.FinMap.{get}
use Rattle.elf_model.specs.declared.func.Func.{Func}
use Rattle.elf_model.specs.Sound.{IsSound}
use Rattle.load_model.specs.Plan.{low_of, high_of}
use Rattle.placement.specs.Placed.{Placed}
use Rattle.load_model.specs.declared.module.Joining.{Joining}
use Rattle.load_model.specs.Descriptors.{descriptors_after}
use Rattle.func_desc.specs.Pool.{free_slots}
use Rattle.load_state.specs.Accepted.{all_items, maps_after, CanBeFilled, wanted_by, adopted_by, given_by}
use Rattle.load_state.specs.Consistent.{HasModules, HasRanges}
use Rattle.load_state.specs.Loaded.{LoadedModules, pool_of}
use Rattle.placement.specs.Space.{all_held}
use Rattle.load_laws.specs.parts.Premises.{HaveOwnNumbers, HasFreeNumber, IsExtended}

-- what is held after a load
abbrev pub RangesStay : Type 0
RangesStay =
    (l new : LoadedModules) (joining : List Joining) (addrs : List ℕ) → HasModules l → HasRanges l
    → HaveOwnNumbers joining → All (HasFreeNumber l.process) joining
    → Placed (low_of l.plan) (high_of l.plan) l.held (all_items l.plan.places joining) addrs
    → new.maps ≡ maps_after l.maps joining addrs → new.held ≡ all_held (all_items l.plan.places joining) addrs l.held
    → HasRanges new

-- the modules after a load
abbrev pub ModulesStay : Type 0
ModulesStay =
    (l new : LoadedModules) (joining : List Joining) (scope addrs : List ℕ) (adopted given : List (Func × ℕ)) → HasModules l → IsExtended l new joining scope
    → HaveOwnNumbers joining → All (HasFreeNumber l.process) joining → All (λ j. IsSound j.object) joining
    → CanBeFilled l joining scope → length (wanted_by l joining scope) ≤ length (free_slots (pool_of l.plan l.addrs))
    → Placed (low_of l.plan) (high_of l.plan) l.held (all_items l.plan.places joining) addrs
    → new.plan ≡ l.plan → new.maps ≡ maps_after l.maps joining addrs
    → adopted ≡ adopted_by l joining scope new.maps → given ≡ given_by l joining scope
    → ((f : Func) → get new.addrs f ≡ descriptors_after (get l.addrs) adopted given f)
    → HasModules new
