-- The load of each program over told files is done, or refused.
use Rattle.std.proofs.Common.{ℕ, ◌^◌, ◌≡◌, ◌<◌, inl, inr, List, Some, refl, subst, arith, length}
use Rattle.fd_base.specs.Fetched.{Files}
use Rattle.symbol_scope.specs.declared.tables.TheConstants.{MAX_MODULES}
use Rattle.load_model.specs.Joined.{Asked}
use Rattle.load_model.specs.declared.plan.MemPlan.{MemPlan}
use Rattle.load_model.specs.Plan.{Fits}
use Rattle.load_laws.proofs.NewLoaders.{new_is_consistent_lem, start_laid_out}
use Rattle.load_state.specs.Consistent.{IsConsistent}
use Rattle.load_state.specs.Loaded.{Loaded, LoadedModules}
use Rattle.load_state.specs.ProgramLoad.{IsNew, eager, start_of}
use Rattle.load_state.specs.Refused.{IsRefused}
use Rattle.load_outcomes.specs.parts.Outcomes.{LoadComesTo, LoadsComeTo, HasPlanOrRefusal}
use Rattle.load_outcomes.proofs.EachCommit.{each_commit}
use Rattle.load_outcomes.proofs.EachPlan.{each_plan}
use Rattle.load_outcomes.proofs.NewMemory.{new_memory}

each_planned : (l : Loaded) (told : Files) (root : List ℕ) (asked : Asked) → IsConsistent l → HasPlanOrRefusal l.modules told root asked
each_planned l told root asked consistent =
    let size : length l.modules.process.modules ≡ MAX_MODULES = consistent.valid.modules' in
    each_plan l.modules told root asked (omega arith)

-- a loader that has loaded nothing
each_start : (plan : MemPlan) → Fits plan → plan.memory < 2 ^ 32 → (l : Loaded) × IsNew plan l
each_start plan fits small =
    let memory = new_memory plan fits small in
    let l : Loaded = record { modules = start_of plan; memory = memory.0 } in (
      l,
      record {
        starts = refl;
        fits = fits;
        laid_out = start_laid_out plan l.modules refl memory.0 memory.1.laid_out;
        resolver = memory.1.stubs.resolver;
        ends = memory.1.stubs.ends;
        clear = memory.1.clear;
      },
    )

each_program : (plan : MemPlan) (told : Files) (name : List ℕ) → Fits plan → plan.memory < 2 ^ 32 → LoadComesTo plan told name
each_program plan told name fits small =
    let start = each_start plan fits small in
    let l : Loaded = start.0 in
    let consistent : IsConsistent l = new_is_consistent_lem plan l start.1 in
    elim (each_planned l told name eager consistent) [
      | inl planned ↦
          let done = each_commit l told name eager planned.0 consistent planned.1 in
          inl (done.0, record { start = l; group = planned.0; fresh = start.1; planned = planned.1; committed = done.1 })
      | inr refused ↦ inr (refused.0, subst (λ (k : LoadedModules). IsRefused k (Some told) name refused.0) start.1.starts refused.1)
    ]

pub loads_come_to_lem : LoadsComeTo
loads_come_to_lem = record { planned = each_planned; committed = each_commit; programs = each_program }
