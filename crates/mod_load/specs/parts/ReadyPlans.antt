-- When a plan may be committed.
use Rattle.std.specs.Prelude.{ℕ, ◌<◌, ◌≤◌, List, length, Option, All}
use Rattle.fd_base.specs.Fetched.{Files}
use Rattle.load_model.specs.Joined.{Asked}
use Rattle.load_state.specs.declared.plan.GroupPlan.{GroupPlan}
use Rattle.load_state.specs.Accepted.{IsPlan}
use Rattle.load_state.specs.Loaded.{LoaderState}
use Rattle.load_process.specs.parts.TakenObjects.{IsTaken}

-- The plan is one of this loader, its objects are such as a walk takes, and there is room for what it adds, and a place for
-- each of its tables.
pub record MayCommit (l : LoaderState) (plan : GroupPlan) : Type 0 where
  pub files : Option Files
  pub root' : List ℕ
  pub asked : Asked
  pub planned : IsPlan l.loaded.modules files root' asked plan
  pub taken : All (λ j. IsTaken j.object) plan.joining
  pub ranges : length plan.items ≤ l.range_room
  pub descriptors : length plan.adopted ≤ l.descriptor_room
  pub tables : All (λ j. j.number < l.table_room) plan.joining
