-- What holds of a loader as it is seen holds of the parts inside it.
use Rattle.std.proofs.Common.{◌≡◌, ℕ, ◌^◌, ◌<◌, List, length, Option, sym, subst, All}
use Rattle.fd_base.specs.Fetched.{Files}
use Rattle.load_map.specs.declared.entry.MapEntry.{MapEntry}
use Rattle.load_map.specs.parts.IsLoadMap.{EndsBelow}
use Rattle.load_places.proofs.SegmentEnds.{maps_end_lem}
use Rattle.load_model.specs.Joined.{Asked}
use Rattle.load_process.specs.parts.TakenObjects.{IsTaken}
use Rattle.load_state.specs.declared.plan.GroupPlan.{GroupPlan}
use Rattle.load_state.specs.Accepted.{IsPlan}
use Rattle.load_state.specs.Consistent.{IsConsistent}
use Rattle.load_state.specs.Loaded.{Loaded, LoaderState}
use Rattle.placed_code.specs.parts.PlacedModules.{ArePlaced}
use Rattle.placed_code.proofs.ModulesPlaced.{consistent_are_placed}
use Rattle.mod_load.specs.parts.ReadyPlans.{MayCommit}

pub consistent_of : {inside seen : LoaderState} → inside ≡ seen → IsConsistent seen.loaded → IsConsistent inside.loaded
consistent_of is consistent = subst (λ (s : LoaderState). IsConsistent s.loaded) (sym is) consistent

-- each placed segment ends below 2^32
pub ends_of : {inside seen : LoaderState} → inside ≡ seen → IsConsistent seen.loaded → length inside.loaded.memory.bytes < 2 ^ 32 → All (All EndsBelow) inside.loaded.modules.maps
ends_of {inside = inside} is consistent small =
    let c = consistent_of is consistent in
    maps_end_lem.old inside.loaded.modules c.modules' (subst (λ (n : ℕ). n < 2 ^ 32) c.laid_out.size small)

-- the modules are placed
pub placed_of : {inside seen : LoaderState} {maps : List (List MapEntry)} → inside ≡ seen → IsConsistent seen.loaded → length inside.loaded.memory.bytes < 2 ^ 32
    → maps ≡ inside.loaded.modules.maps → ArePlaced inside.loaded.modules.process maps
placed_of {inside = inside} is consistent small same =
    let c = consistent_of is consistent in
    subst (ArePlaced inside.loaded.modules.process) (sym same) (consistent_are_placed inside.loaded c (subst (λ (n : ℕ). n < 2 ^ 32) c.laid_out.size small))

-- a plan of a consistent loader
pub record IsPlanOf (l : Loaded) (plan : GroupPlan) : Type 0 where
  pub files : Option Files
  pub root' : List ℕ
  pub asked : Asked
  pub consistent : IsConsistent l
  pub planned : IsPlan l.modules files root' asked plan
  pub taken : All (λ j. IsTaken j.object) plan.joining

pub plan_of : {inside seen : LoaderState} (plan : GroupPlan) → inside ≡ seen → IsConsistent seen.loaded → MayCommit seen plan → IsPlanOf inside.loaded plan
plan_of plan is consistent ready = record {
  files = ready.files;
  root' = ready.root';
  asked = ready.asked;
  consistent = consistent_of is consistent;
  planned = subst (λ (s : LoaderState). IsPlan s.loaded.modules ready.files ready.root' ready.asked plan) (sym is) ready.planned;
  taken = ready.taken;
}
