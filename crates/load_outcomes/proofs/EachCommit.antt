-- Each plan of a consistent loader over told files can be carried out.
use Rattle.std.proofs.Common.{ℕ, ◌+◌, ◌≤◌, List, length, Option, Some, None, refl, sym, subst, All}
use Rattle.std.specs.Prelude.{IsSomeAnd}
use Rattle.std.specs.FinMap.{get}
use Rattle.std.proofs.lemmas.List.Elements.{All-weaker}
use Rattle.fd_base.specs.declared.store.TheConstants.{MAX_FILE}
use Rattle.fd_base.specs.Fetched.{Files}
use Rattle.elf_model.specs.declared.func.Func.{Func}
use Rattle.elf_model.specs.declared.object.Object.{Object}
use Rattle.elf_model.specs.Object.{IsObject}
use Rattle.elf_model.proofs.Soundness as soundness
use Rattle.placement.specs.Space.{all_held}
use Rattle.load_model.specs.declared.module.Joining.{Joining}
use Rattle.load_model.specs.declared.module.SymbolicProcess.{SymbolicProcess}
use Rattle.load_model.specs.declared.plan.TheConstants.{DESCRIPTOR_SIZE}
use Rattle.load_model.specs.Joined.{Asked, process_after}
use Rattle.load_model.specs.Walk.{FileIs}
use Rattle.load_process.specs.parts.TakenObjects.{IsTaken}
use Rattle.load_process.proofs.FewSymbols.{taken}
use Rattle.load_places.proofs.CommitSteps.{steps_commit_lem}
use Rattle.load_places.proofs.GivenSlots.{given_room}
use Rattle.load_places.proofs.PlansPlaceable.{placeable_lem}
use Rattle.load_state.specs.declared.plan.GroupPlan.{GroupPlan}
use Rattle.load_state.specs.Accepted.{IsPlan}
use Rattle.load_state.specs.Committed.{IsCommitted}
use Rattle.load_state.specs.Consistent.{IsConsistent}
use Rattle.load_state.specs.Loaded.{Loaded, LoadedModules}
use Rattle.load_outcomes.proofs.EnteredAddresses.{entered, entered_addr}
use Rattle.load_outcomes.proofs.PutModules.{descriptors_put, modules_put}

-- an object that is read from a file is one that can be placed
file_taken : (told : Files) (name : List ℕ) (o : Object) → FileIs (Some told) name o → IsTaken o
file_taken told name o h = by (get told name) h
  where
    by : (x : Option (List ℕ)) → IsSomeAnd x (λ bytes. (length bytes ≤ MAX_FILE) × IsObject bytes o) → IsTaken o
    by None h = absurd h
    by (Some bytes) h = taken bytes o h.1 (soundness.accepted_is_sound bytes o h.1)

pub files_taken : (l : LoadedModules) (told : Files) (root : List ℕ) (asked : Asked) (plan : GroupPlan) → IsPlan l (Some told) root asked plan → All (λ j. IsTaken j.object) plan.joining
files_taken l told root asked plan planned =
    let files : All (λ (j : Joining). FileIs (Some told) j.name j.object) plan.joining = planned.scoped.walk.walked.files' in
    All-weaker (λ (j : Joining). FileIs (Some told) j.name j.object) (λ (j : Joining). IsTaken j.object) (λ j. file_taken told j.name j.object) plan.joining files

pub each_commit : (l : Loaded) (told : Files) (root : List ℕ) (asked : Asked) (plan : GroupPlan) → IsConsistent l → IsPlan l.modules (Some told) root asked plan
    → (new : Loaded) × IsCommitted l plan new
each_commit l told root asked plan consistent planned =
    let objects : All (λ (j : Joining). IsTaken j.object) plan.joining = files_taken l.modules told root asked plan planned in
    let placeable = placeable_lem l (Some told) root asked plan consistent planned objects in
    let room = given_room l (Some told) root asked plan consistent planned objects in
    let between = modules_put plan.joining plan.maps plan.parts l.memory consistent.laid_out.whole placeable in
    let process : SymbolicProcess = process_after l.modules.process plan.lazy plan.joining plan.scope plan.global in
    let inside : All (λ (e : Func × ℕ). e.1 + DESCRIPTOR_SIZE ≤ length (between.0).bytes) plan.given =
    subst (λ n. All (λ (e : Func × ℕ). e.1 + DESCRIPTOR_SIZE ≤ n) plan.given) (sym between.2) room.inside in
    let last = descriptors_put process plan.maps plan.given between.0 inside room.apart in
    let modules : LoadedModules = record {
      plan = l.modules.plan;
      process = process;
      maps = plan.maps;
      held = all_held plan.items plan.addrs l.modules.held;
      addrs = entered l.modules.addrs plan.adopted plan.given;
    } in
    let new : Loaded = record { modules = modules; memory = last.0 } in (
      new,
      steps_commit_lem l (Some told) root asked plan consistent planned objects new between.0
          (record { plan' = refl; process' = refl; maps' = refl; held' = refl; addrs' = entered_addr l.modules.addrs plan.adopted plan.given }) between.1 last.1,
    )
