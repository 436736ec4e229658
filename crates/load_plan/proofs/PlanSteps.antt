-- The plan of a load, and its refusals, from its steps.
use Rattle.std.proofs.Common.{◌≡◌, ℕ, ◌≤◌, Bool, List, length, map, Option, refl, ap, subst, ◌∙◌, arith}
use Rattle.std.specs.Prelude.{filter, not}
use Rattle.std.specs.List.{range_with_len, zip}
use Rattle.fd_base.specs.Fetched.{Files}
use Rattle.elf_model.specs.declared.func.Func.{Func}
use Rattle.func_desc.specs.Functions.{has_addr}
use Rattle.func_desc.specs.Pool.{Pool, free_slots, slot_addr}
use Rattle.placement.specs.Placed.{Placed, FailsAt}
use Rattle.placement.specs.Space.{Space}
use Rattle.symbol_scope.specs.declared.table.Table.{Table}
use Rattle.load_model.specs.declared.error.LoadErr.{LoadErr}
use Rattle.load_model.specs.declared.error.LoadErr.TheVariants.{Refused, StoreFault, Memory as NoMemory}
use Rattle.load_model.specs.declared.error.LoadRefusal.TheVariants.{NotBuilt, Elf, NoFile, TooLong, TooManyModules, Unresolved, NotCode, DescriptorsFull, NoRoom, BadAddress}
use Rattle.load_model.specs.Explains.{Explains}
use Rattle.load_model.specs.Joined.{Asked, flags_of, global_after}
use Rattle.load_model.specs.Linkage.{linkage_with}
use Rattle.load_model.specs.Plan.{descriptors_at, low_of}
use Rattle.load_image.specs.Places.{placed_pairs_of}
use Rattle.load_state.specs.Loaded.{pool_of}
use Rattle.load_state.specs.declared.plan.GroupPlan.{GroupPlan}
use Rattle.load_state.specs.Accepted.{IsPlan, all_items, tables_of, targets_for, wanted_by, AreFinished, placing_by}
use Rattle.load_state.specs.Refused.{IsRefused}
use Rattle.load_plan.specs.declared.layout.Layout.{Layout}
use Rattle.load_plan.specs.declared.layout.Standing.{Standing}
use Rattle.load_plan.specs.declared.linking.Linked.{Linked}
use Rattle.load_plan.specs.parts.Layout.{IsRoomy, IsLaid, IsUnlaid, loaded_by}
use Rattle.load_plan.specs.parts.LinkedLoad.{IsLinked}

-- the free slots of a pool are told by where it lies and which functions have an address
abbrev slots_from : Pool → ℕ → ℕ → List ℕ
slots_from pool base slots = filter (λ a. not (has_addr pool.addrs a)) (map (slot_addr base) (range_with_len 0 slots))

same_free : (s : Standing) (space : Space) (pool : Pool) → IsRoomy s space pool → free_slots pool ≡ free_slots (pool_of s.plan.now pool.addrs)
same_free s space pool roomy = ap (λ base. slots_from pool base pool.slots) roomy.base' ∙ ap (λ slots. slots_from pool (descriptors_at s.plan.now) slots) roomy.slots'

enough_by : (s : Standing) (space : Space) (pool : Pool) (files : Option Files) (root : List ℕ) (linked : Linked) → IsRoomy s space pool
    → IsLinked s.process.now pool.addrs files root linked → length linked.wanted ≤ length (free_slots pool)
    → length (wanted_by (loaded_by s space pool) linked.joining linked.scope) ≤ length (free_slots (pool_of s.plan.now pool.addrs))
enough_by s space pool files root linked roomy is enough =
    let free : length (free_slots pool) ≡ length (free_slots (pool_of s.plan.now pool.addrs)) = ap length (same_free s space pool roomy) in
    let wanted : length linked.wanted ≡ length (wanted_by (loaded_by s space pool) linked.joining linked.scope) = ap length is.wanted' in
    omega (arith, free, wanted, enough)

-- what the plan has of what is linked and laid out
abbrev pub plan_from : Linked → Layout → Bool → List (List Bool) → List (List (Option Func)) → List Table → List ℕ → List (List (List ℕ)) → GroupPlan
plan_from linked layout lazy unbound targets tables global parts = record {
  root = linked.root;
  joining = linked.joining;
  lazy = lazy;
  unbound = unbound;
  targets = targets;
  tables = tables;
  scope = linked.scope;
  global = global;
  items = layout.items;
  addrs = layout.addrs;
  maps = layout.maps;
  adopted = layout.adopted;
  given = layout.given;
  parts = parts;
}

pub planned : (s : Standing) (space : Space) (pool : Pool) (files : Option Files) (root : List ℕ) (asked : Asked) (linked : Linked) (layout : Layout)
    (unbound : List (List Bool)) (targets : List (List (Option Func))) (tables : List Table) (global : List ℕ) (parts : List (List (List ℕ))) → IsRoomy s space pool
    → IsLinked s.process.now pool.addrs files root linked → IsLaid s space pool linked layout → unbound ≡ flags_of asked.lazy linked.joining
    → targets ≡ targets_for (loaded_by s space pool) linked.joining linked.scope → tables ≡ tables_of linked.joining → global ≡ global_after s.process.now asked.global linked.scope
    → AreFinished (linkage_with s.process.now linked.joining linked.scope)
    (placing_by s.process.now pool.addrs linked.joining layout.maps layout.adopted layout.given) asked.lazy linked.joining layout.maps parts
    → IsPlan (loaded_by s space pool) files root asked (plan_from linked layout asked.lazy unbound targets tables global parts)
planned s space pool files root asked linked layout unbound targets tables global parts roomy is laid flags slots exported global' finished =
    let l = loaded_by s space pool in
    record {
      scoped = is.scoped;
      root' = is.root';
      global' = global';
      lazy' = refl;
      unbound' = flags;
      targets' = slots;
      tables' = exported;
      filled = is.filled;
      enough = enough_by s space pool files root linked roomy is laid.enough;
      items' = laid.items';
      placed' = subst (λ (high : ℕ). Placed (low_of s.plan.now) high space.held layout.items layout.addrs) roomy.high'
          (subst (λ (low : ℕ). Placed low space.high space.held layout.items layout.addrs) roomy.low' laid.placed');
      maps' = laid.maps';
      adopted' = laid.adopted' ∙ ap (λ ps. placed_pairs_of layout.maps ps) is.privates';
      given' = laid.given' ∙ ap (λ wanted. zip wanted (free_slots pool)) is.wanted' ∙ ap (λ free. zip (wanted_by l linked.joining linked.scope) free) (same_free s space pool roomy);
      parts' = finished;
    }

-- ---- refusals

pub unlaid : (s : Standing) (space : Space) (pool : Pool) (files : Option Files) (root : List ℕ) (linked : Linked) (old now : ℕ) (e : LoadErr)
    → IsRoomy s space pool → IsLinked s.process.now pool.addrs files root linked → IsUnlaid s space pool linked e
    → Explains (IsRefused (loaded_by s space pool) files root) old now e
unlaid s space pool files root linked old now (Refused (DescriptorsFull n)) roomy is why =
    let free : length (free_slots pool) ≡ length (free_slots (pool_of s.plan.now pool.addrs)) = ap length (same_free s space pool roomy) in
    let wanted : length linked.wanted ≡ length (wanted_by (loaded_by s space pool) linked.joining linked.scope) = ap length is.wanted' in
    record {
      joining = linked.joining;
      scope = linked.scope;
      scoped = is.scoped;
      filled = is.filled;
      free = why.0 ∙ free;
      more = omega (arith, wanted, why.1);
    }
unlaid s space pool files root linked old now (Refused (NoRoom i)) roomy is why = record {
  joining = linked.joining;
  scope = linked.scope;
  scoped = is.scoped;
  filled = is.filled;
  enough = enough_by s space pool files root linked roomy is why.0;
  fails = subst (λ (high : ℕ). FailsAt (low_of s.plan.now) high space.held (all_items s.plan.now.places linked.joining) i) roomy.high'
      (subst (λ (low : ℕ). FailsAt low space.high space.held (all_items s.plan.now.places linked.joining) i) roomy.low' why.1);
}
unlaid s space pool files root linked old now (Refused TooManyModules) roomy is why = absurd why
unlaid s space pool files root linked old now (Refused (TooLong n)) roomy is why = absurd why
unlaid s space pool files root linked old now (Refused (NoFile n)) roomy is why = absurd why
unlaid s space pool files root linked old now (Refused (Elf n r)) roomy is why = absurd why
unlaid s space pool files root linked old now (Refused (Unresolved m n)) roomy is why = absurd why
unlaid s space pool files root linked old now (Refused (NotCode m n)) roomy is why = absurd why
unlaid s space pool files root linked old now (Refused (BadAddress m site)) roomy is why = absurd why
unlaid s space pool files root linked old now (Refused (NotBuilt n)) roomy is why = absurd why
unlaid s space pool files root linked old now StoreFault roomy is why = absurd why
unlaid s space pool files root linked old now NoMemory roomy is why = tt
