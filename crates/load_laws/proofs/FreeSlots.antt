-- The slots that functions get in a load: each is free and one function's, and that function has its address afterwards.
use Rattle.std.proofs.Common.{◌≡◌, ◌≢◌, ℕ, zero, suc, inl, inr, Bool, true, false, ◌||◌, List, [], ◌∷◌, filter, map, slice_get, Option, Some, None, refl, sym, ap, subst, ◌∙◌, arith, All}
use Rattle.std.specs.Prelude.{Contains, AllPairs, not, is_some}
use Rattle.std.specs.FinMap.{get}
use Rattle.std.specs.List.{zip, flat_map}
use Rattle.std.specs.Option.{option_or}
use Rattle.std.proofs.lemmas.Bool.{cases_Bool, false≢true}
use Rattle.std.proofs.lemmas.List.Elements.{All-nil, All-contains, filter_passes}
use Rattle.fd_base.proofs.Bools.{neither}
use Rattle.fd_base.proofs.Options.{none_of}
use Rattle.fd_base.specs.Fetched.{Files}
use Rattle.elf_model.specs.declared.func.Func.{Func}
use Rattle.func_desc.specs.Pool.{IsSlot, free_slots}
use Rattle.func_desc.proofs.Contained.{free_slots_free}
use Rattle.symbol_scope.proofs.Growing.{All-with_new, once_more}
use Rattle.load_model.specs.Joined.{Asked}
use Rattle.load_model.specs.Definition.{Linkage}
use Rattle.load_model.specs.Descriptors.{is_same_func, is_listed, listed_addr, descriptors_after, asked_of, privates, wanted}
use Rattle.load_map.specs.Maps.{map_at}
use Rattle.load_map.specs.Translation.{placed as placed_at}
use Rattle.load_model.specs.Linkage.{members_of}
use Rattle.load_model.specs.Sites.{Member}
use Rattle.load_state.specs.declared.plan.GroupPlan.{GroupPlan}
use Rattle.load_state.specs.Accepted.{IsPlan, adopted_by, linkage_for, wanted_by}
use Rattle.load_state.specs.Loaded.{LoadedModules, pool_of}
use Rattle.load_map.specs.Maps.{map_at}
use Rattle.load_laws.proofs.ListedDescriptors.{same_decides}
use Rattle.load_laws.proofs.GivenSlots.{IsPair, in_zip, one_slot}
use Rattle.fd_base.proofs.Members.{contains_at}
use Rattle.fd_base.proofs.Lists.{pairs_at}

-- ---- lists with addresses

-- among functions that differ each has the address at its place
listed_at : (fs : List Func) (slots : List ℕ) (f : Func) (a i : ℕ) → AllPairs (λ g h. g ≢ h) fs → slice_get fs i ≡ Some f → slice_get slots i ≡ Some a
    → listed_addr (zip fs slots) f ≡ Some a
listed_at [] slots f a i once func slot = absurd cc
listed_at (g ∷ fs) [] f a i once func slot = absurd cc
listed_at (g ∷ fs) (b ∷ slots) f a zero once func slot =
    let is : g ≡ f = cc in
    rw ((same_decides f g).1 (sym is)) slot
listed_at (g ∷ fs) (b ∷ slots) f a (suc i) once func slot =
    elim (cases_Bool (is_same_func f g)) [
      | inl here ↦ absurd (pairs_at (λ g h. g ≢ h) (g ∷ fs) 0 (suc i) g f once (omega arith) refl func (sym ((same_decides f g).0 here)))
      | inr other ↦ rw other (listed_at fs slots f a i (λ j k d lt within. once (suc j) (suc k) d (omega arith) (omega arith)) func slot)
    ]

-- a list with other values lists no other functions
pub not_listed : {X : Type 0} (entries : List (Func × X)) (place : Func × X → ℕ) (f : Func) → is_listed entries f ≡ false
    → listed_addr (map (λ e. (e.0, place e)) entries) f ≡ None
not_listed [] place f h = refl
not_listed (e ∷ entries) place f h =
    elim (cases_Bool (is_same_func f e.0)) [
      | inl here ↦ absurd (false≢true (sym (rw here at h)))
      | inr other ↦
          let later : is_listed entries f ≡ false = rw other at h in
          rw other (not_listed entries place f later)
    ]

-- ---- functions that need a slot

module _ (k : Linkage) (before : Func → Option ℕ) (members : List Member) where
  abbrev pub lacks : Func → Bool
  lacks f = not (is_some (before f) || is_listed (privates k members) f)

  -- none of them had an address, nor has a private descriptor
  pub all_lack : All (λ f. lacks f ≡ true) (wanted k before members)
  all_lack =
      let asked = flat_map (asked_of k) members in
      All-with_new is_same_func (λ f. lacks f ≡ true) [] (filter lacks asked) (All-nil (λ f. lacks f ≡ true)) (filter_passes lacks asked)

  pub wanted_once : AllPairs (λ g h. g ≢ h) (wanted k before members)
  wanted_once = once_more is_same_func same_decides [] (filter lacks (flat_map (asked_of k) members)) (λ i j d lt within. absurd (omega arith))

  -- such a function has the address of its slot
  pub has_slot : (place : Func × ℕ → ℕ) (slots : List ℕ) (f : Func) (a : ℕ) → IsPair (wanted k before members) slots f a
      → descriptors_after before (map (λ e. (e.0, place e)) (privates k members)) (zip (wanted k before members) slots) f ≡ Some a
  has_slot place slots f a pair =
      let fs = wanted k before members in
      let own = listed_addr (map (λ e. (e.0, place e)) (privates k members)) f in
      let none = neither (is_some (before f)) (is_listed (privates k members) f) (All-contains (λ g. lacks g ≡ true) fs f all_lack (contains_at fs pair.index f pair.func)) in
      ap (λ o. option_or o (option_or own (listed_addr (zip fs slots) f))) (none_of (before f) none.0)
      ∙ ap (λ o. option_or o (listed_addr (zip fs slots) f)) (not_listed (privates k members) place f none.1)
      ∙ listed_at fs slots f a pair.index wanted_once pair.func pair.slot

-- ---- the slots of a plan

module _ (l : LoadedModules) (files : Option Files) (root : List ℕ) (asked : Asked) (plan : GroupPlan) (planned : IsPlan l files root asked plan) where
  given_pair : (f : Func) (a : ℕ) → Contains plan.given (f, a) → IsPair (wanted_by l plan.joining plan.scope) (free_slots (pool_of l.plan l.addrs)) f a
  given_pair f a there =
      in_zip (wanted_by l plan.joining plan.scope) (free_slots (pool_of l.plan l.addrs)) f a (subst (λ (es : List (Func × ℕ)). Contains es (f, a)) planned.given' there)

  pub given_free : (f : Func) (a : ℕ) → Contains plan.given (f, a) → Contains (free_slots (pool_of l.plan l.addrs)) a
  given_free f a there = let pair = given_pair f a there in contains_at (free_slots (pool_of l.plan l.addrs)) pair.index a pair.slot

  pub given_slot : (f : Func) (a : ℕ) → Contains plan.given (f, a) → IsSlot (pool_of l.plan l.addrs) a
  given_slot f a there = free_slots_free.slots (pool_of l.plan l.addrs) a (given_free f a there)

  pub given_unused : (f g : Func) (a : ℕ) → Contains plan.given (f, a) → get l.addrs g ≢ Some a
  given_unused f g a there = free_slots_free.unused (pool_of l.plan l.addrs) a g (given_free f a there)

  pub given_distinct : (f g : Func) (a : ℕ) → Contains plan.given (f, a) → Contains plan.given (g, a) → f ≡ g
  given_distinct f g a here there =
      one_slot (wanted_by l plan.joining plan.scope) (free_slots (pool_of l.plan l.addrs)) f g a (free_slots_free.rising (pool_of l.plan l.addrs))
      (given_pair f a here) (given_pair g a there)

  -- the address that a function with a slot has after the load
  pub given_address : (f : Func) (a : ℕ) → Contains plan.given (f, a) → descriptors_after (get l.addrs) plan.adopted plan.given f ≡ Some a
  given_address f a there =
      let place : Func × ℕ → ℕ = λ e. placed_at (map_at plan.maps e.0.module) e.1 in
      let own = adopted_by l plan.joining plan.scope plan.maps in
      ap (λ es. descriptors_after (get l.addrs) es plan.given f) planned.adopted' ∙ ap (λ es. descriptors_after (get l.addrs) own es f) planned.given'
      ∙ has_slot (linkage_for l plan.joining plan.scope) (get l.addrs) (members_of plan.joining) place (free_slots (pool_of l.plan l.addrs)) f a (given_pair f a there)
