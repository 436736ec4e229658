-- What a loader gives to the plan of a load, and gets back.
use Rattle.std.proofs.Common.{◌≡◌, ℕ, ◌*◌, ◌^◌, ◌<◌, ◌≤◌, List, length, get_or, Option, Result, Ok, Err, sym, ap, subst, ◌∙◌, arith, All}
use Rattle.std.specs.Prelude.{IfOk, count_by, is_some}
use Rattle.std.proofs.lemmas.List.Sums.{count_by-le-length}
use Rattle.load_map.specs.declared.entry.MapEntry.{MapEntry}
use Rattle.fd_base.specs.Fetched.{Files}
use Rattle.func_desc.specs.Pool.{Pool}
use Rattle.load_places.proofs.SegmentEnds.{maps_end_lem}
use Rattle.load_map.specs.parts.IsLoadMap.{EndsBelow}
use Rattle.load_model.specs.Joined.{Asked}
use Rattle.load_model.specs.declared.error.LoadErr.{LoadErr}
use Rattle.load_model.specs.declared.module.SymbolicProcess.{SymbolicProcess}
use Rattle.load_model.specs.Plan.{Fits, high_of}
use Rattle.load_plan.specs.declared.layout.Standing.{Standing}
use Rattle.load_plan.specs.parts.Layout.{IsPlannable}
use Rattle.load_plan.specs.parts.LinkedLoad.{HasFewSymbols}
use Rattle.load_state.specs.declared.plan.GroupPlan.{GroupPlan}
use Rattle.load_state.specs.Accepted.{IsPlan}
use Rattle.load_state.specs.Consistent.{IsConsistent}
use Rattle.load_state.specs.Loaded.{Loaded, LoadedModules, LoaderState}
use Rattle.load_plan.specs.parts.Tables.{HasTables}
use Rattle.load_process.specs.parts.TakenObjects.{IsTaken}
use Rattle.placement.specs.Space.{Space}
use Rattle.symbol_scope.specs.parts.Slots.{TableSpace}
use Rattle.mod_load.specs.parts.Fit.{IsFit}
use Rattle.mod_load.specs.parts.ReadyPlans.{MayCommit}
use Rattle.mod_load.specs.parts.Targets.{AllTargets}

pub plannable : (l : Loaded) (s : Standing) (space : Space) (pool : Pool) (tables : TableSpace) (targets : AllTargets) → s.plan.now ≡ l.modules.plan → s.process.now ≡ l.modules.process → s.maps.now ≡ l.modules.maps
    → length l.memory.bytes < 2 ^ 32 → IsConsistent l → IsFit l.modules.plan l.modules.process space pool tables targets → IsPlannable s space tables pool
plannable l s space pool tables targets plan process maps small c fit =
    let memory : length l.memory.bytes ≡ l.modules.plan.memory = c.laid_out.size in
    let below : l.modules.plan.memory < 2 ^ 32 = subst (λ (n : ℕ). n < 2 ^ 32) memory small in
    let live : count_by is_some l.modules.process.modules ≤ length l.modules.process.modules = count_by-le-length is_some l.modules.process.modules in
    let modules : length l.modules.process.modules ≡ 64 = c.valid.modules' in
    let held : length space.held ≤ 8 * count_by is_some l.modules.process.modules = fit.count in
    let high : space.high ≡ high_of l.modules.plan = fit.high' in
    record {
      roomy = record {
        fits = subst Fits (sym plan) c.fits;
        low' = rw plan fit.low';
        high' = rw plan fit.high';
        small = omega arith;
        base' = rw plan fit.base';
        slots' = rw plan fit.slots';
        modules' = ap (λ p. length p.modules) process ∙ modules;
        maps' = ap length maps ∙ c.modules'.count;
        ends = subst (λ (ms : List (List MapEntry)). All (All EndsBelow) ms) (sym maps) (maps_end_lem.old l.modules c.modules' below);
        few = omega arith;
      };
      tables' = subst (λ (p : SymbolicProcess). HasTables p tables.slots) (sym process) fit.tabled;
      symbols = subst HasFewSymbols (sym process) fit.few;
    }

-- an earlier plan may be committed where the loader is as it was, with no less room
pub still_ready : {inside seen new : LoaderState} (plan : GroupPlan) → inside ≡ seen → new.loaded ≡ seen.loaded → inside.range_room ≤ new.range_room → inside.descriptor_room ≤ new.descriptor_room
    → inside.table_room ≤ new.table_room → MayCommit seen plan → MayCommit new plan
still_ready {seen = seen} plan is stays ranges descriptors tables ready =
    let ranged = ap (λ s. s.range_room) is in
    let described = ap (λ s. s.descriptor_room) is in
    let tabled = ap (λ s. s.table_room) is in
    record {
      files = ready.files;
      root' = ready.root';
      asked = ready.asked;
      planned = subst (λ (x : Loaded). IsPlan x.modules ready.files ready.root' ready.asked plan) (sym stays) ready.planned;
      taken = ready.taken;
      ranges = omega (arith, ranged, ranges, ready.ranges);
      descriptors = omega (arith, described, descriptors, ready.descriptors);
      tables = λ k d lt. let before : (get_or plan.joining k d).number < seen.table_room = ready.tables k d lt in omega (arith, tabled, tables, before);
    }

-- it may be committed where the loader is as it was, with room
pub may_commit : (files : Option Files) (root : List ℕ) (asked : Asked) (l : LoadedModules) (new : LoaderState) (r : Result GroupPlan LoadErr) → new.loaded.modules ≡ l → IfOk r (IsPlan l files root asked)
    → IfOk r (λ p. All (λ j. IsTaken j.object) p.joining) → IfOk r (λ p. length p.items ≤ new.range_room) → IfOk r (λ p. length p.adopted ≤ new.descriptor_room)
    → IfOk r (λ p. All (λ j. j.number < new.table_room) p.joining) → IfOk r (MayCommit new)
may_commit files root asked l new (Ok p) stays planned taken ranges descriptors tables = record {
  files = files;
  root' = root;
  asked = asked;
  planned = subst (λ (x : LoadedModules). IsPlan x files root asked p) (sym stays) planned;
  taken = taken;
  ranges = ranges;
  descriptors = descriptors;
  tables = tables;
}
may_commit files root asked l new (Err e) stays planned taken ranges descriptors tables = tt
