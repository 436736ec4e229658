-- How the parts of a loader fit together after a load.
use Rattle.std.proofs.Common.{◌≡◌, ℕ, zero, suc, ◌+◌, ◌*◌, ◌<◌, ◌≤◌, inl, inr, Bool, cond, List, [], ◌∷◌, length, get_or, set, Option, Some, None, refl, sym, ap, subst, ◌∙◌, arith, All}
use Rattle.std.specs.Prelude.{count_by, is_some, option_map}
use Rattle.std.proofs.lemmas.List.{length-set}
use Rattle.std.proofs.lemmas.List.Elements.{All-contains, All-head, All-tail}
use Rattle.std.proofs.lemmas.List.Sums.{sum_by-set}
use Rattle.fd_base.specs.Fetched.{Files}
use Rattle.elf_model.specs.declared.object.Object.{Object}
use Rattle.func_desc.specs.Pool.{Pool}
use Rattle.placement.specs.declared.item.Held.{Held}
use Rattle.placement.specs.declared.item.Item.{Item}
use Rattle.placement.specs.Space.{IsOwned, Space}
use Rattle.symbol_scope.specs.declared.table.Table.{Table}
use Rattle.symbol_scope.specs.Exports.{exports_of}
use Rattle.symbol_scope.specs.parts.Slots.{Slots, TableSpace}
use Rattle.load_laws.proofs.Extension.{extended}
use Rattle.load_laws.proofs.ModulesAfter.{old_number}
use Rattle.load_laws.proofs.NewNumbers.{free_numbers_of, own_numbers, sound_of, unused_numbers}
use Rattle.load_laws.specs.parts.Premises.{HaveOwnNumbers}
use Rattle.load_model.specs.declared.module.Joining.{Joining}
use Rattle.load_model.specs.declared.module.Live.{Live}
use Rattle.load_model.specs.Joined.{Asked, group_of, live_from, modules_after, process_after}
use Rattle.load_plan.proofs.NewItems.{all_few, all_owned}
use Rattle.load_plan.specs.parts.LinkedLoad.{HasFewSymbols}
use Rattle.load_plan.specs.parts.Tables.{ArePut, HasTable, HasTables, exports_at}
use Rattle.load_process.proofs.NumberedPlaces.{at_place, at_place-set_other}
use Rattle.load_state.specs.declared.plan.GroupPlan.{GroupPlan}
use Rattle.load_state.specs.Accepted.{IsPlan, linkage_for}
use Rattle.load_state.specs.Consistent.{IsConsistent}
use Rattle.load_state.specs.Loaded.{Loaded, LoadedModules}
use Rattle.load_state.specs.Slots.{targets_of}
use Rattle.load_process.specs.parts.TakenObjects.{IsTaken}
use Rattle.mod_load.specs.parts.EnteredAddresses.{AreEntered}
use Rattle.mod_load.specs.parts.Fit.{IsFit}
use Rattle.mod_load.specs.parts.Targets.{AllTargets, AreKept, HasTargets}
use Rattle.mod_load.proofs.LaterTargets.{has_later}

-- ---- live modules

place_read : {X : Type 0} (xs : List (Option X)) (n : ℕ) → get_or xs n None ≡ at_place xs n
place_read [] n = refl
place_read (x ∷ xs) zero = refl
place_read (x ∷ xs) (suc n) = place_read xs n

one_more : (modules : List (Option Live)) (n : ℕ) (live : Live) → n < length modules → at_place modules n ≡ None → count_by is_some (set modules n (Some live)) ≡ count_by is_some modules + 1
one_more modules n live lt none =
    let count : Option Live → ℕ = λ place. cond (is_some place) 1 0 in
    let free : count (get_or modules n None) ≡ 0 = ap count (place_read modules n ∙ none) in
    let step = sum_by-set count modules n (Some live) None lt in
    omega (arith, free, step)

counted : (modules : List (Option Live)) (lazy : Bool) (group : ℕ) (joining : List Joining) → HaveOwnNumbers joining → All (λ j. j.number < length modules) joining → All (λ j. at_place modules j.number ≡ None) joining
    → count_by is_some (modules_after modules lazy group joining) ≡ count_by is_some modules + length joining
counted modules lazy group [] own below free = omega arith
counted modules lazy group (j ∷ joining) own below free =
    let new : List (Option Live) = set modules j.number (Some (live_from lazy group j)) in
    let step = one_more modules j.number (live_from lazy group j) (All-head (λ (i : Joining). i.number < length modules) j joining below) (All-head (λ (i : Joining). at_place modules i.number ≡ None) j joining free) in
    let below' : All (λ i. i.number < length new) joining =
    subst (λ (n : ℕ). All (λ (i : Joining). i.number < n) joining) (sym (length-set modules j.number (Some (live_from lazy group j)))) (All-tail (λ (i : Joining). i.number < length modules) j joining below) in
    let free' : All (λ i. at_place new i.number ≡ None) joining = λ k d lt.
    at_place-set_other modules j.number (get_or joining k d).number (Some (live_from lazy group j)) (own.0 k d lt) ∙ All-tail (λ (i : Joining). at_place modules i.number ≡ None) j joining free k d lt in
    let rest = counted new lazy group joining own.1 below' free' in
    omega (arith, step, rest)

module _ (l : Loaded) (files : Option Files) (root : List ℕ) (asked : Asked) (plan : GroupPlan) (c : IsConsistent l) (planned : IsPlan l.modules files root asked plan) (taken : All (λ j. IsTaken j.object) plan.joining) where
  pub owned : All IsOwned plan.items
  owned = subst (All IsOwned) (sym planned.items') (all_owned l.modules.plan.places plan.joining (free_numbers_of l.modules files root asked plan planned).small)

  few_items : length plan.items ≤ 8 * length plan.joining
  few_items = subst (λ (items : List Item). length items ≤ 8 * length plan.joining) (sym planned.items') (all_few l.modules.plan.places plan.joining (sound_of plan.joining taken))

  few_after : HasFewSymbols l.modules.process → HasFewSymbols (process_after l.modules.process plan.lazy plan.joining plan.scope plan.global)
  few_after few m o is =
      let new : LoadedModules = record l.modules { process = process_after l.modules.process plan.lazy plan.joining plan.scope plan.global } in
      elim ((extended l.modules new files root asked plan c.valid planned refl).only m o is) [
        | inl old ↦ few m o old
        | inr joins ↦ subst (λ (x : Object). length x.symbols ≤ 65536) joins.3 (All-contains (λ (j : Joining). IsTaken j.object) plan.joining joins.0 taken joins.1).few
      ]

  live_after : count_by is_some (process_after l.modules.process plan.lazy plan.joining plan.scope plan.global).modules ≡ count_by is_some l.modules.process.modules + length plan.joining
  live_after =
      counted l.modules.process.modules plan.lazy (group_of plan.joining) plan.joining (own_numbers l.modules files root asked plan planned)
      (subst (λ (n : ℕ). All (λ (j : Joining). j.number < n) plan.joining) (sym c.valid.modules') (free_numbers_of l.modules files root asked plan planned).small)
      (free_numbers_of l.modules files root asked plan planned).free

  -- each module that is live then has its table
  tabled_after : (old new : Slots) → HasTables l.modules.process old → ArePut plan.joining old new → HasTables (process_after l.modules.process plan.lazy plan.joining plan.scope plan.global) new
  tabled_after old new has put =
      let later : LoadedModules = record l.modules { process = process_after l.modules.process plan.lazy plan.joining plan.scope plan.global } in
      record {
        size = put.size ∙ has.size;
        live = λ m o is. elim ((extended l.modules later files root asked plan c.valid planned refl).only m o is) [
          | inl before ↦
              ap (option_map (λ (t : Table). t.exports)) (put.others m (old_number l.modules.process plan.joining m o (unused_numbers l.modules files root asked plan planned) before)) ∙ has.live m o before
          | inr joins ↦
              ap (exports_at new) (sym joins.2) ∙ ap (option_map (λ (t : Table). t.exports)) (All-contains (HasTable new) plan.joining joins.0 put.each joins.1)
              ∙ ap (λ (x : Object). Some (exports_of x.symbols)) joins.3
        ];
      }

  -- and the functions of its slots are kept
  targeted_after : (old new : AllTargets) → HasTargets l.modules.process old → AreKept (λ j. targets_of (linkage_for l.modules plan.joining plan.scope) j.number j.object) plan.joining old new
      → HasTargets (process_after l.modules.process plan.lazy plan.joining plan.scope plan.global) new
  targeted_after old new has kept =
      let later : LoadedModules = record l.modules { process = process_after l.modules.process plan.lazy plan.joining plan.scope plan.global } in
      has_later l.modules later plan.joining plan.scope old new (extended l.modules later files root asked plan c.valid planned refl)
      (λ m o is. (c.modules'.standing m o is).sound)
      (λ m o is. old_number l.modules.process plan.joining m o (unused_numbers l.modules files root asked plan planned) is)
      has kept

  pub fit_after : (space after : Space) (pool adopted given : Pool) (tables later : TableSpace) (targets kept : AllTargets) (held : List Held) (room : ℕ) → IsFit l.modules.plan l.modules.process space pool tables targets
      → ArePut plan.joining tables.slots later.slots → AreKept (λ j. targets_of (linkage_for l.modules plan.joining plan.scope) j.number j.object) plan.joining targets kept → after ≡ record { low = space.low; high = space.high; held = held; room = room } → length after.held ≡ length space.held + length plan.items
      → AreEntered plan.adopted pool adopted → AreEntered plan.given adopted given
      → IsFit l.modules.plan (process_after l.modules.process plan.lazy plan.joining plan.scope plan.global) after given later kept
  fit_after space after pool adopted given tables later targets kept held room fit put keep is longer first last = record {
    low' = ap (λ s. s.low) is ∙ fit.low';
    high' = ap (λ s. s.high) is ∙ fit.high';
    base' = last.base' ∙ first.base' ∙ fit.base';
    slots' = last.slots' ∙ first.slots' ∙ fit.slots';
    tabled = tabled_after tables.slots later.slots fit.tabled put;
    targeted = targeted_after targets kept fit.targeted keep;
    few = few_after fit.few;
    count = let before = fit.count in let few = few_items in let more = live_after in omega arith;
  }
