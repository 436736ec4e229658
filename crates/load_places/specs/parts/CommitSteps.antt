-- The steps in which a plan is committed.
use Rattle.std.specs.Prelude.{◌≡◌}
use Rattle.std.specs.FinMap.{get}
use Rattle.elf_model.specs.declared.func.Func.{Func}
use Rattle.placement.specs.Space.{all_held}
use Rattle.load_model.specs.Descriptors.{descriptors_after}
use Rattle.load_model.specs.Joined.{process_after}
use Rattle.load_state.specs.declared.plan.GroupPlan.{GroupPlan}
use Rattle.load_state.specs.Loaded.{LoadedModules}

-- all but the memory is what it is after the load
pub record IsEntered (old : LoadedModules) (plan : GroupPlan) (new : LoadedModules) : Type 0 where
  pub plan' : new.plan ≡ old.plan
  pub process' : new.process ≡ process_after old.process plan.lazy plan.joining plan.scope plan.global
  pub maps' : new.maps ≡ plan.maps
  pub held' : new.held ≡ all_held plan.items plan.addrs old.held
  pub addrs' : (f : Func) → get new.addrs f ≡ descriptors_after (get old.addrs) plan.adopted plan.given f
