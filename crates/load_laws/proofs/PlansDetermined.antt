-- A load has one plan or one refusal.
use Rattle.std.proofs.Common.{◌≡◌, ℕ, ◌≤◌, Bool, List, length, Option, Some, None, refl, sym, ap, subst, ◌∙◌, arith}
use Rattle.fd_base.proofs.Options.{one_value}
use Rattle.load_map.specs.declared.entry.MapEntry.{MapEntry}
use Rattle.fd_base.specs.Fetched.{Files}
use Rattle.placement.specs.Placed.{Placed, FailsAt}
use Rattle.placement.specs.declared.item.Item.{Item}
use Rattle.placement.proofs.Placing.{placed_once, fails_once, placed_or_fails}
use Rattle.load_model.specs.declared.error.LoadRefusal.{LoadRefusal}
use Rattle.load_model.specs.declared.error.LoadRefusal.TheVariants.{NotBuilt, Elf, NoFile, TooLong, TooManyModules, Unresolved, NotCode, DescriptorsFull, NoRoom, BadAddress}
use Rattle.load_model.specs.declared.module.Joining.{Joining}
use Rattle.load_model.specs.Joined.{Asked, flags_of, global_after}
use Rattle.load_model.specs.Linkage.{closure_of, scope_with, members_of}
use Rattle.load_model.specs.Plan.{low_of, high_of}
use Rattle.load_model.specs.Sites.{first_refusal}
use Rattle.load_model.specs.Walk.{IsWalkRefused, number_among}
use Rattle.load_process.proofs.WalksDetermined.{walks_are_determined}
use Rattle.func_desc.specs.Pool.{free_slots}
use Rattle.load_state.specs.declared.plan.GroupPlan.{GroupPlan}
use Rattle.load_state.specs.Accepted.{IsPlan, IsScoped, linkage_for, CanBeFilled, wanted_by, all_items, maps_after, adopted_by, given_by, tables_of, targets_for}
use Rattle.load_state.specs.parts.Determined.{SamePlan, PlansAreDetermined}
use Rattle.load_state.specs.Loaded.{LoadedModules, pool_of}
use Rattle.load_state.specs.Refused.{IsRefused, HasUnfilledSite, LacksSlots, HasNoPlace}

-- ---- what is linked

linked_once : (l : LoadedModules) (told : Files) (root : List ℕ) (js ks : List Joining) (s t : List ℕ) → IsScoped l.process (Some told) root js s → IsScoped l.process (Some told) root ks t → (js ≡ ks) × (s ≡ t)
linked_once l told root js ks s t a b =
    let same = walks_are_determined.same_walk l.process told root js ks a.names b.names a.walk b.walk in (
      same.0,
      a.scope'
          ∙ ap (λ (x : List Joining). scope_with l.process (closure_of l.process x a.names)) same.0
          ∙ ap (λ (names : List (List ℕ)). scope_with l.process (closure_of l.process ks names)) same.1
          ∙ sym b.scope',
    )

-- ---- why a load is refused, by the stage

pub data Cause (l : LoadedModules) (files : Option Files) (root : List ℕ) (r : LoadRefusal) : Type 0 where
  Walking : IsWalkRefused l.process files root r → Cause l files root r
  Filling : HasUnfilledSite l.process files root r → Cause l files root r
  Giving : (n : ℕ) → r ≡ DescriptorsFull n → LacksSlots l files root n → Cause l files root r
  Placing : (i : ℕ) → r ≡ NoRoom i → HasNoPlace l files root i → Cause l files root r

cause_of : (l : LoadedModules) (files : Option Files) (root : List ℕ) (r : LoadRefusal) → IsRefused l files root r → Cause l files root r
cause_of l files root TooManyModules h = Walking h
cause_of l files root (TooLong n) h = Walking h
cause_of l files root (NoFile n) h = Walking h
cause_of l files root (Elf n r) h = Walking h
cause_of l files root (Unresolved m n) h = Filling h
cause_of l files root (NotCode m n) h = Filling h
cause_of l files root (BadAddress m site) h = Filling h
cause_of l files root (DescriptorsFull n) h = Giving n refl h
cause_of l files root (NoRoom i) h = Placing i refl h
cause_of l files root (NotBuilt n) h = absurd h

-- ---- stages exclude each other

none_some : {X : Type 0} (o : Option X) (x : X) → o ≡ None → o ≡ Some x → ⊥
none_some o x none some = let never : None ≡ Some x = sym none ∙ some in cc

abbrev unwrapped : {X : Type 0} → X → Option X → X
unwrapped d None = d
unwrapped d (Some x) = x

filled_or_not : (l : LoadedModules) (told : Files) (root : List ℕ) (js : List Joining) (s : List ℕ) (r : LoadRefusal) → IsScoped l.process (Some told) root js s → CanBeFilled l js s → HasUnfilledSite l.process (Some told) root r → ⊥
filled_or_not l told root js s r a filled site =
    let same = linked_once l told root js site.joining s site.scope a site.scoped in
    let here : CanBeFilled l site.joining site.scope = subst (λ (t : List ℕ). CanBeFilled l site.joining t) same.1 (subst (λ (k : List Joining). CanBeFilled l k s) same.0 filled) in
    none_some (first_refusal (linkage_for l site.joining site.scope) (members_of site.joining)) r here site.first

enough_or_not : (l : LoadedModules) (told : Files) (root : List ℕ) (js : List Joining) (s : List ℕ) (n : ℕ) → IsScoped l.process (Some told) root js s → length (wanted_by l js s) ≤ length (free_slots (pool_of l.plan l.addrs)) → LacksSlots l (Some told) root n → ⊥
enough_or_not l told root js s n a enough slots =
    let same = linked_once l told root js slots.joining s slots.scope a slots.scoped in
    let here : length (wanted_by l slots.joining slots.scope) ≤ length (free_slots (pool_of l.plan l.addrs)) =
    subst (λ (t : List ℕ). length (wanted_by l slots.joining t) ≤ length (free_slots (pool_of l.plan l.addrs))) same.1 (subst (λ (k : List Joining). length (wanted_by l k s) ≤ length (free_slots (pool_of l.plan l.addrs))) same.0 enough) in
    omega (arith, here, slots.free, slots.more)

walked_or_not : (l : LoadedModules) (told : Files) (root : List ℕ) (js : List Joining) (s : List ℕ) (r : LoadRefusal) → IsScoped l.process (Some told) root js s → IsWalkRefused l.process (Some told) root r → ⊥
walked_or_not l told root js s r a walk = walks_are_determined.exclusive l.process told root js a.names r a.walk walk

one_cause : (l : LoadedModules) (told : Files) (root : List ℕ) (r q : LoadRefusal) → Cause l (Some told) root r → Cause l (Some told) root q → r ≡ q
one_cause l told root r q (Walking h) (Walking k) = walks_are_determined.same_refusal l.process told root r q h k
one_cause l told root r q (Walking h) (Filling k) = absurd (walked_or_not l told root k.joining k.scope r k.scoped h)
one_cause l told root r q (Walking h) (Giving n e k) = absurd (walked_or_not l told root k.joining k.scope r k.scoped h)
one_cause l told root r q (Walking h) (Placing i e k) = absurd (walked_or_not l told root k.joining k.scope r k.scoped h)
one_cause l told root r q (Filling h) (Walking k) = absurd (walked_or_not l told root h.joining h.scope q h.scoped k)
one_cause l told root r q (Filling h) (Filling k) =
    let same = linked_once l told root h.joining k.joining h.scope k.scope h.scoped k.scoped in
    let here : first_refusal (linkage_for l k.joining k.scope) (members_of k.joining) ≡ Some r =
    subst (λ (t : List ℕ). first_refusal (linkage_for l k.joining t) (members_of k.joining) ≡ Some r) same.1
    (subst (λ (x : List Joining). first_refusal (linkage_for l x h.scope) (members_of x) ≡ Some r) same.0 h.first) in
    one_value (first_refusal (linkage_for l k.joining k.scope) (members_of k.joining)) r q here k.first
one_cause l told root r q (Filling h) (Giving n e k) = absurd (filled_or_not l told root k.joining k.scope r k.scoped k.filled h)
one_cause l told root r q (Filling h) (Placing i e k) = absurd (filled_or_not l told root k.joining k.scope r k.scoped k.filled h)
one_cause l told root r q (Giving n e h) (Walking k) = absurd (walked_or_not l told root h.joining h.scope q h.scoped k)
one_cause l told root r q (Giving n e h) (Filling k) = absurd (filled_or_not l told root h.joining h.scope q h.scoped h.filled k)
one_cause l told root r q (Giving n e h) (Giving m f k) = e ∙ ap DescriptorsFull (h.free ∙ sym k.free) ∙ sym f
one_cause l told root r q (Giving n e h) (Placing i f k) = absurd (enough_or_not l told root k.joining k.scope n k.scoped k.enough h)
one_cause l told root r q (Placing i e h) (Walking k) = absurd (walked_or_not l told root h.joining h.scope q h.scoped k)
one_cause l told root r q (Placing i e h) (Filling k) = absurd (filled_or_not l told root h.joining h.scope q h.scoped h.filled k)
one_cause l told root r q (Placing i e h) (Giving n f k) = absurd (enough_or_not l told root h.joining h.scope n h.scoped h.enough k)
one_cause l told root r q (Placing i e h) (Placing j f k) =
    let same = linked_once l told root h.joining k.joining h.scope k.scope h.scoped k.scoped in
    let here : FailsAt (low_of l.plan) (high_of l.plan) l.held (all_items l.plan.places k.joining) i =
    subst (λ (x : List Joining). FailsAt (low_of l.plan) (high_of l.plan) l.held (all_items l.plan.places x) i) same.0 h.fails in
    e ∙ ap NoRoom (fails_once (low_of l.plan) (high_of l.plan) l.held (all_items l.plan.places k.joining) i j here k.fails) ∙ sym f

plan_or_cause : (l : LoadedModules) (told : Files) (root : List ℕ) (asked : Asked) (g : GroupPlan) (r : LoadRefusal) → IsPlan l (Some told) root asked g → Cause l (Some told) root r → ⊥
plan_or_cause l told root asked g r p (Walking h) = walked_or_not l told root g.joining g.scope r p.scoped h
plan_or_cause l told root asked g r p (Filling h) = filled_or_not l told root g.joining g.scope r p.scoped p.filled h
plan_or_cause l told root asked g r p (Giving n e h) = enough_or_not l told root g.joining g.scope n p.scoped p.enough h
plan_or_cause l told root asked g r p (Placing i e h) =
    let same = linked_once l told root g.joining h.joining g.scope h.scope p.scoped h.scoped in
    let P : List Item → Type 0 = λ items. Placed (low_of l.plan) (high_of l.plan) l.held items g.addrs in
    let here : P (all_items l.plan.places h.joining) = subst P (p.items' ∙ ap (all_items l.plan.places) same.0) p.placed' in
    placed_or_fails (low_of l.plan) (high_of l.plan) l.held (all_items l.plan.places h.joining) g.addrs i here h.fails

-- ---- one plan

same_plan : (l : LoadedModules) (told : Files) (root : List ℕ) (asked : Asked) (g h : GroupPlan) → IsPlan l (Some told) root asked g → IsPlan l (Some told) root asked h → SamePlan g h
same_plan l told root asked g h p q = record {
  root' = one_value (number_among l.process g.joining root) g.root h.root p.root' (ap (λ (x : List Joining). number_among l.process x root) joining ∙ q.root');
  joining' = joining;
  scope' = scope;
  global' = p.global' ∙ ap (global_after l.process asked.global) scope ∙ sym q.global';
  lazy' = lazy;
  unbound' = p.unbound' ∙ ap (λ (b : Bool). flags_of b g.joining) lazy ∙ ap (flags_of h.lazy) joining ∙ sym q.unbound';
  targets' = p.targets' ∙ ap (λ (x : List Joining). targets_for l x g.scope) joining ∙ ap (targets_for l h.joining) scope ∙ sym q.targets';
  tables' = p.tables' ∙ ap tables_of joining ∙ sym q.tables';
  addrs' = addrs;
  maps' = maps;
  adopted' = p.adopted'
      ∙ ap (λ (x : List Joining). adopted_by l x g.scope g.maps) joining
      ∙ ap (λ (x : List ℕ). adopted_by l h.joining x g.maps) scope
      ∙ ap (λ (x : List (List MapEntry)). adopted_by l h.joining h.scope x) maps
      ∙ sym q.adopted';
  given' = p.given' ∙ ap (λ (x : List Joining). given_by l x g.scope) joining ∙ ap (given_by l h.joining) scope ∙ sym q.given';
}
  where
    both : (g.joining ≡ h.joining) × (g.scope ≡ h.scope)
    both = linked_once l told root g.joining h.joining g.scope h.scope p.scoped q.scoped

    joining : g.joining ≡ h.joining
    joining = both.0

    scope : g.scope ≡ h.scope
    scope = both.1

    lazy : g.lazy ≡ h.lazy
    lazy = p.lazy' ∙ sym q.lazy'

    items : g.items ≡ h.items
    items = p.items' ∙ ap (all_items l.plan.places) joining ∙ sym q.items'

    addrs : g.addrs ≡ h.addrs
    addrs = placed_once (low_of l.plan) (high_of l.plan) l.held h.items g.addrs h.addrs
        (subst (λ (xs : List Item). Placed (low_of l.plan) (high_of l.plan) l.held xs g.addrs) items p.placed') q.placed'

    maps : g.maps ≡ h.maps
    maps = p.maps' ∙ ap (λ (x : List Joining). maps_after l.maps x g.addrs) joining ∙ ap (maps_after l.maps h.joining) addrs ∙ sym q.maps'

pub plans_determined : PlansAreDetermined
plans_determined = record {
  same_plan = same_plan;
  exclusive = λ l told name asked g r p h. plan_or_cause l told name asked g r p (cause_of l (Some told) name r h);
  same_refusal = λ l told name r s h k. one_cause l told name r s (cause_of l (Some told) name r h) (cause_of l (Some told) name s k);
}
