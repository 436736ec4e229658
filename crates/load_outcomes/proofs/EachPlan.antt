-- Over told files each load has a plan or a refusal.
use Rattle.std.proofs.Common.{◌≡◌, ℕ, ◌<◌, ◌≤◌, ◌⊎◌, inl, inr, List, length, Option, Some, None, refl}
use Rattle.std.proofs.lemmas.Bool.{cases_lt}
use Rattle.load_map.specs.declared.entry.MapEntry.{MapEntry}
use Rattle.fd_base.specs.Fetched.{Files}
use Rattle.elf_model.specs.declared.func.Func.{Func}
use Rattle.func_desc.specs.Pool.{free_slots}
use Rattle.placement.specs.Placed.{FailsAt, Placed}
use Rattle.symbol_scope.specs.declared.tables.TheConstants.{MAX_MODULES}
use Rattle.load_model.specs.declared.error.LoadErr.TheVariants.{Refused}
use Rattle.load_model.specs.declared.error.LoadRefusal.{LoadRefusal}
use Rattle.load_model.specs.declared.error.LoadRefusal.TheVariants.{DescriptorsFull, NoRoom}
use Rattle.load_model.specs.declared.module.Joining.{Joining}
use Rattle.load_model.specs.Image.{Placing}
use Rattle.load_model.specs.Joined.{Asked, flags_of, global_after}
use Rattle.load_model.specs.Linkage.{closure_of, members_of, scope_with}
use Rattle.load_model.specs.Plan.{high_of, low_of}
use Rattle.load_model.specs.Sites.{first_refusal}
use Rattle.load_model.specs.Walk.{number_among}
use Rattle.load_plan.specs.parts.LinkedLoad.{IsUnlinked}
use Rattle.load_plan.specs.parts.LinkedLoad.IsUnlinked.{Filling, Walking}
use Rattle.load_plan.proofs.LinkRefusals.{told_refused}
use Rattle.load_state.specs.declared.plan.GroupPlan.{GroupPlan}
use Rattle.load_state.specs.Accepted.{CanBeFilled, IsScoped, adopted_by, all_items, given_by, linkage_for, maps_after, placing_by, tables_of, targets_for, wanted_by}
use Rattle.load_state.specs.Loaded.{LoadedModules, pool_of}
use Rattle.load_state.specs.Refused.{IsRefused}
use Rattle.load_outcomes.specs.parts.Outcomes.{HasPlanOrRefusal}
use Rattle.load_outcomes.proofs.EachImage.{are_finished, images_of}
use Rattle.load_outcomes.proofs.EachPlace.{placed_or_fails}
use Rattle.load_outcomes.proofs.EachWalk.{each_walk}

module _ (l : LoadedModules) (told : Files) (root : List ℕ) (asked : Asked) where
  unlinked : (r : LoadRefusal) → IsUnlinked l.process (Some told) root r → IsRefused l (Some told) root r
  unlinked r why = told_refused l (Some told) root 0 0 (Refused r) why

  module _ (joining : List Joining) (scope : List ℕ) (number : ℕ) (scoped : IsScoped l.process (Some told) root joining scope)
      (root' : number_among l.process joining root ≡ Some number) where
    abbrev maps : List ℕ → List (List MapEntry)
    maps addrs = maps_after l.maps joining addrs

    abbrev adopted : List ℕ → List (Func × ℕ)
    adopted addrs = adopted_by l joining scope (maps addrs)

    abbrev placing : List ℕ → Placing
    placing addrs = placing_by l.process l.addrs joining (maps addrs) (adopted addrs) (given_by l joining scope)

    abbrev planned : List ℕ → GroupPlan
    planned addrs = record {
      root = number;
      joining = joining;
      lazy = asked.lazy;
      unbound = flags_of asked.lazy joining;
      targets = targets_for l joining scope;
      tables = tables_of joining;
      scope = scope;
      global = global_after l.process asked.global scope;
      items = all_items l.plan.places joining;
      addrs = addrs;
      maps = maps addrs;
      adopted = adopted addrs;
      given = given_by l joining scope;
      parts = images_of (linkage_for l joining scope) (placing addrs) asked.lazy (maps addrs) joining;
    }

    by_place : CanBeFilled l joining scope → length (wanted_by l joining scope) ≤ length (free_slots (pool_of l.plan l.addrs))
        → ((addrs : List ℕ) × Placed (low_of l.plan) (high_of l.plan) l.held (all_items l.plan.places joining) addrs)
        ⊎ ((n : ℕ) × FailsAt (low_of l.plan) (high_of l.plan) l.held (all_items l.plan.places joining) n)
        → HasPlanOrRefusal l told root asked
    by_place filled enough (inl placed) =
        inl (
          planned placed.0,
          record {
            scoped = scoped;
            root' = root';
            global' = refl;
            lazy' = refl;
            unbound' = refl;
            targets' = refl;
            tables' = refl;
            filled = filled;
            enough = enough;
            items' = refl;
            placed' = placed.1;
            maps' = refl;
            adopted' = refl;
            given' = refl;
            parts' = are_finished (linkage_for l joining scope) (placing placed.0) asked.lazy (maps placed.0) joining;
          },
        )
    by_place filled enough (inr fails) =
        inr (NoRoom fails.0, record { joining = joining; scope = scope; scoped = scoped; filled = filled; enough = enough; fails = fails.1 })

    by_slots : CanBeFilled l joining scope
        → (length (free_slots (pool_of l.plan l.addrs)) < length (wanted_by l joining scope)) ⊎ (length (wanted_by l joining scope) ≤ length (free_slots (pool_of l.plan l.addrs)))
        → HasPlanOrRefusal l told root asked
    by_slots filled (inl more) =
        let free : ℕ = length (free_slots (pool_of l.plan l.addrs)) in
        inr (DescriptorsFull free, record { joining = joining; scope = scope; scoped = scoped; filled = filled; free = refl; more = more })
    by_slots filled (inr enough) =
        by_place filled enough (placed_or_fails (low_of l.plan) (high_of l.plan) l.held (all_items l.plan.places joining))

    by_sites : (first : Option LoadRefusal) → first_refusal (linkage_for l joining scope) (members_of joining) ≡ first → HasPlanOrRefusal l told root asked
    by_sites None filled = by_slots filled (cases_lt (length (free_slots (pool_of l.plan l.addrs))) (length (wanted_by l joining scope)))
    by_sites (Some r) first = inr (r, unlinked r (Filling (record { joining = joining; scope = scope; scoped = scoped; first = first })))

  -- the load of a valid process
  pub each_plan : length l.process.modules ≤ MAX_MODULES → HasPlanOrRefusal l told root asked
  each_plan size =
      elim (each_walk l.process told root size) [
        | inr why ↦ inr (why.0, unlinked why.0 (Walking why.1))
        | inl done ↦
            let joining : List Joining = done.0 in
            let scope : List ℕ = scope_with l.process (closure_of l.process joining done.1) in
            by_sites joining scope done.2 (record { names = done.1; walk = done.3.walk; scope' = refl }) done.3.root'
            (first_refusal (linkage_for l joining scope) (members_of joining)) refl
      ]
