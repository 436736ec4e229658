-- How the parts of a loader fit together.
use Rattle.std.specs.Prelude.{◌≡◌, ◌*◌, ◌≤◌, length, count_by, is_some}
use Rattle.elf_model.specs.declared.constants.TheConstants.{MAX_SEGMENTS}
use Rattle.func_desc.specs.Pool.{Pool}
use Rattle.placement.specs.Space.{Space}
use Rattle.symbol_scope.specs.parts.Slots.{TableSpace}
use Rattle.load_model.specs.declared.module.SymbolicProcess.{SymbolicProcess}
use Rattle.load_model.specs.declared.plan.MemPlan.{MemPlan}
use Rattle.load_model.specs.Plan.{descriptors_at, low_of, high_of}
use Rattle.load_plan.specs.parts.LinkedLoad.{HasFewSymbols}
use Rattle.load_plan.specs.parts.Tables.{HasTables}
use Rattle.mod_load.specs.parts.Targets.{AllTargets, HasTargets}

-- The space of modules and the slots are those of the plan, each live module has its table, and the functions of its slots
-- are kept.
pub record IsFit (plan : MemPlan) (process : SymbolicProcess) (space : Space) (pool : Pool) (tables : TableSpace) (targets : AllTargets) : Type 0 where
  pub low' : space.low ≡ low_of plan
  pub high' : space.high ≡ high_of plan
  pub base' : pool.base ≡ descriptors_at plan
  pub slots' : pool.slots ≡ plan.descriptors
  pub tabled : HasTables process tables.slots
  pub targeted : HasTargets process targets
  pub few : HasFewSymbols process
  -- a module has no more ranges than segments
  pub count : length space.held ≤ MAX_SEGMENTS * count_by is_some process.modules
