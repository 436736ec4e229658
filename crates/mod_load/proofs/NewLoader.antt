-- A loader that has loaded nothing.
use Rattle.std.proofs.Common.{◌≡◌, ℕ, zero, suc, true, List, [], ◌∷◌, length, get_or, replicate, Option, Some, None, refl, sym, ap, ◌∙◌, arith}
use Rattle.std.specs.Prelude.{is_none, option_map}
use Rattle.std.specs.FinMap.{empty}
use Rattle.std.specs.List.{list_all}
use Rattle.std.specs.Option.{option_map_or}
use Rattle.std.proofs.lemmas.List.{length-replicate}
use Rattle.elf_model.specs.declared.func.Func.{Func}
use Rattle.elf_model.specs.declared.object.Object.{Object}
use Rattle.func_desc.specs.Pool.{Pool}
use Rattle.placement.specs.Space.{Space}
use Rattle.symbol_scope.specs.declared.table.Table.{Table}
use Rattle.symbol_scope.specs.parts.Slots.{TableSpace}
use Rattle.symbol_scope.specs.declared.tables.TheConstants.{MAX_MODULES}
use Rattle.load_model.specs.declared.module.Group.{Group}
use Rattle.load_model.specs.declared.module.Live.{Live}
use Rattle.load_model.specs.declared.module.SymbolicProcess.{SymbolicProcess}
use Rattle.load_model.specs.declared.plan.MemPlan.{MemPlan}
use Rattle.load_model.specs.Joined.{is_empty}
use Rattle.load_model.specs.Linkage.{linkage_of}
use Rattle.load_model.specs.Plan.{descriptors_at, low_of, high_of}
use Rattle.load_model.specs.Process.{group_at, live_at, object_at}
use Rattle.load_model.specs.Validity.{IsValid}
use Rattle.fd_base.proofs.Options.{of_some_and}
use Rattle.load_plan.specs.parts.Tables.{HasTables}
use Rattle.load_process.proofs.NumberedPlaces.{at_place, at_place-none}
use Rattle.load_state.specs.ProgramLoad.{empty_process}
use Rattle.load_state.specs.Slots.{targets_of}
use Rattle.mod_load.specs.parts.Fit.{IsFit}
use Rattle.mod_load.specs.parts.Targets.{AllTargets, HasTargets}

-- ---- a process without modules

none_places : {X : Type 0} (xs : List (Option X)) → ((m : ℕ) → at_place xs m ≡ None) → xs ≡ replicate (length xs) None
none_places [] none = refl
none_places (None ∷ xs) none = ap (λ rest. None ∷ rest) (none_places xs (λ m. none (suc m)))
none_places (Some x ∷ xs) none = let first = none 0 in absurd cc

all_none : {X : Type 0} (xs : List (Option X)) → list_all (λ place. is_none place) xs ≡ true → (m : ℕ) → at_place xs m ≡ None
all_none [] h m = refl
all_none (None ∷ xs) h zero = refl
all_none (None ∷ xs) h (suc m) = all_none xs h m
all_none (Some x ∷ xs) h m = absurd cc

no_groups : (p : SymbolicProcess) → IsValid p → ((m : ℕ) → live_at p m ≡ None) → (g : ℕ) → group_at p g ≡ None
no_groups p valid nobody g = by (group_at p g) refl
  where
    by : (o : Option Group) → group_at p g ≡ o → o ≡ None
    by None is = refl
    by (Some group) is =
        let founder = of_some_and (λ (live : Live). live.group ≡ g) (live_at p g) (valid.scopes g group is).founder in
        let never : None ≡ Some founder.0 = sym (nobody g) ∙ founder.1 in
        absurd cc

pub is_start : (p : SymbolicProcess) → IsValid p → is_empty p ≡ true → p.global ≡ [] → p ≡ empty_process
is_start p valid empty global =
    let made : List (Option Live) → List (Option Group) → List ℕ → SymbolicProcess = λ ms gs ns. record { modules = ms; groups = gs; global = ns } in
    let nobody : (m : ℕ) → live_at p m ≡ None = all_none p.modules empty in
    let modules : p.modules ≡ replicate MAX_MODULES None = none_places p.modules nobody ∙ ap (λ n. replicate n None) valid.modules' in
    let groups : p.groups ≡ replicate MAX_MODULES None = none_places p.groups (no_groups p valid nobody) ∙ ap (λ n. replicate n None) valid.groups' in
    ap (λ ms. made ms p.groups p.global) modules ∙ ap (λ gs. made (replicate MAX_MODULES None) gs p.global) groups ∙ ap (made (replicate MAX_MODULES None) (replicate MAX_MODULES None)) global

no_objects : (p : SymbolicProcess) → p ≡ empty_process → (m : ℕ) → object_at p m ≡ None
no_objects p empty' m = ap (λ q. object_at q m) empty' ∙ ap (option_map (λ (live : Live). live.object)) (at_place-none MAX_MODULES m)

-- so each has its table
start_tabled : (p : SymbolicProcess) (tables : TableSpace) → p ≡ empty_process → tables ≡ record { slots = replicate MAX_MODULES None; room = 0 } → HasTables p tables.slots
start_tabled p tables empty' none = record {
  size = ap (λ (t : TableSpace). length t.slots) none ∙ length-replicate {A = Option Table} MAX_MODULES None;
  live = λ m o is. let never : None ≡ Some o = sym (no_objects p empty' m) ∙ is in absurd cc;
}

abbrev no_targets : List (Option Func)
no_targets = []

nothing_at : (n m : ℕ) → get_or (replicate n []) m [] ≡ no_targets
nothing_at zero m = refl
nothing_at (suc n) zero = refl
nothing_at (suc n) (suc m) = nothing_at n m

-- and its slots lead where it is kept
start_targeted : (p : SymbolicProcess) (targets : AllTargets) → p ≡ empty_process → targets ≡ replicate MAX_MODULES [] → HasTargets p targets
start_targeted p targets empty' none = record {
  size = ap (λ (t : AllTargets). length t) none ∙ length-replicate {A = List (Option Func)} MAX_MODULES [];
  each = λ m.
      ap (λ (t : AllTargets). get_or t m []) none ∙ nothing_at MAX_MODULES m
      ∙ sym (ap (λ (o : Option Object). option_map_or (targets_of (linkage_of p) m) o []) (no_objects p empty' m));
}

-- how its parts fit together
pub start_fit : (plan copy : MemPlan) (p : SymbolicProcess) (space : Space) (pool : Pool) (tables : TableSpace) (targets : AllTargets) (low high base : ℕ) → copy ≡ plan → p ≡ empty_process → low ≡ low_of plan → high ≡ high_of plan
    → base ≡ descriptors_at plan → space ≡ record { low = low; high = high; held = []; room = space.room }
    → pool ≡ record { base = base; slots = plan.descriptors; addrs = empty; room = pool.room }
    → tables ≡ record { slots = replicate MAX_MODULES None; room = 0 } → targets ≡ replicate MAX_MODULES [] → IsFit copy p space pool tables targets
start_fit plan copy p space pool tables targets low high base same empty' low' high' base' space' pool' tables' targets' = record {
  low' = ap (λ s. s.low) space' ∙ low' ∙ ap low_of (sym same);
  high' = ap (λ s. s.high) space' ∙ high' ∙ ap high_of (sym same);
  base' = ap (λ q. q.base) pool' ∙ base' ∙ ap descriptors_at (sym same);
  slots' = ap (λ q. q.slots) pool' ∙ ap (λ q. q.descriptors) (sym same);
  tabled = start_tabled p tables empty' tables';
  targeted = start_targeted p targets empty' targets';
  few = λ m o is. let never : None ≡ Some o = sym (no_objects p empty' m) ∙ is in absurd cc;
  count = let none : length space.held ≡ 0 = ap (λ s. length s.held) space' in omega arith;
}
