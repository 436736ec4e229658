-- The descriptors that functions get in a load: what a pool relies on.
use Rattle.std.proofs.Common.{◌≡◌, ◌≢◌, ℕ, ◌<◌, ◌≤◌, true, List, [], ◌∷◌, length, get_or, take, map, filter, Option, None, refl, sym, ap, subst, ◌∙◌, arith, min, All}
use Rattle.std.specs.Prelude.{AllPairs, not, is_some}
use Rattle.std.specs.FinMap.{get}
use Rattle.std.specs.List.{range_with_len, zip}
use Rattle.std.specs.Option.{option_or}
use Rattle.std.proofs.lemmas.List.Elements.{All-weaker}
use Rattle.std.proofs.lemmas.Slice.Zip.{get_or-zip, length-zip}
use Rattle.fd_base.specs.Fetched.{Files}
use Rattle.elf_model.specs.declared.func.Func.{Func}
use Rattle.func_desc.specs.Functions.{AddrMap, has_addr}
use Rattle.func_desc.specs.Pool.{Pool, free_slots, slot_addr}
use Rattle.load_model.specs.Joined.{Asked}
use Rattle.load_laws.proofs.ConsistentAfter.{adoptable}
use Rattle.load_laws.proofs.FreeSlots.{all_lack, lacks, not_listed, wanted_once}
use Rattle.fd_base.proofs.Bools.{neither}
use Rattle.fd_base.proofs.Options.{none_of}
use Rattle.load_model.specs.Plan.{descriptors_at}
use Rattle.load_model.specs.Descriptors.{is_listed, listed_addr, privates}
use Rattle.load_map.specs.Translation.{placed as placed_at}
use Rattle.load_model.specs.Linkage.{members_of}
use Rattle.load_state.specs.declared.plan.GroupPlan.{GroupPlan}
use Rattle.load_state.specs.Accepted.{IsPlan, given_by, linkage_for, wanted_by}
use Rattle.load_state.specs.Consistent.{IsConsistent}
use Rattle.load_state.specs.Loaded.{Loaded, pool_of}
use Rattle.load_map.specs.Maps.{map_at}
use Rattle.load_process.specs.parts.TakenObjects.{IsTaken}
use Rattle.mod_load.specs.parts.EnteredAddresses.{AreEntered, AreNext, CanBeAdopted}

-- ---- pairs

module _ {A B : Type 0} (xs : List A) (ys : List B) where
  in_both : (i : ℕ) → i < length (zip xs ys) → (i < length xs) × (i < length ys)
  in_both i lt = let count : length (zip xs ys) ≡ min (length xs) (length ys) = length-zip xs ys in (omega arith, omega arith)

  pairs_first : (R : A → A → Type 0) → AllPairs R xs → AllPairs (λ d e. R d.0 e.0) (zip xs ys)
  pairs_first R all i j d lt within =
      let far = in_both j within in
      let near = in_both i (omega arith) in
      subst (λ (p : A × B). R p.0 (get_or (zip xs ys) j d).0) (sym (get_or-zip xs ys i d near.0 near.1))
      (subst (λ (p : A × B). R (get_or xs i d.0) p.0) (sym (get_or-zip xs ys j d far.0 far.1)) (all i j d.0 lt far.0))

  each_first : (P : A → Type 0) → All P xs → All (λ e. P e.0) (zip xs ys)
  each_first P all i d lt = let at = in_both i lt in subst (λ (p : A × B). P p.0) (sym (get_or-zip xs ys i d at.0 at.1)) (all i d.0 at.0)

-- all of one list beside some of the other
seconds : {A B : Type 0} (xs : List A) (ys : List B) → length xs ≤ length ys → map (λ (p : A × B). p.1) (zip xs ys) ≡ take (length (zip xs ys)) ys
seconds [] ys few = refl
seconds (x ∷ xs) [] few = absurd (omega arith)
seconds (x ∷ xs) (y ∷ ys) few = ap (λ rest. y ∷ rest) (seconds xs ys (omega arith))

-- ---- pools

-- free slots are told by the slots and the addresses that are had
same_free : (p q : Pool) → p.base ≡ q.base → p.slots ≡ q.slots → p.addrs ≡ q.addrs → free_slots p ≡ free_slots q
same_free p q base slots addrs =
    let free_of : ℕ → ℕ → AddrMap → List ℕ = λ b n m. filter (λ a. not (has_addr m a)) (map (slot_addr b) (range_with_len 0 n)) in
    ap (λ b. free_of b p.slots p.addrs) base ∙ ap (λ n. free_of q.base n p.addrs) slots ∙ ap (free_of q.base q.slots) addrs

module _ (l : Loaded) (files : Option Files) (root : List ℕ) (asked : Asked) (plan : GroupPlan) (c : IsConsistent l) (planned : IsPlan l.modules files root asked plan) (taken : All (λ j. IsTaken j.object) plan.joining) where
  module _ (pool : Pool) (base : pool.base ≡ descriptors_at l.modules.plan) (slots : pool.slots ≡ l.modules.plan.descriptors) (addrs : pool.addrs ≡ l.modules.addrs) where
    pub can_adopt : CanBeAdopted plan.adopted pool
    can_adopt = record {
      unused = λ f g a there is. (adoptable l files root asked plan c planned taken).unused f g a there (ap (λ m. get m g) (sym addrs) ∙ is);
      no_slot = λ f a there slot. (adoptable l files root asked plan c planned taken).no_slot f a there (slot.0, subst (λ n. slot.0 < n) slots slot.1, subst (λ b. a ≡ slot_addr b slot.0) base slot.2);
      distinct = (adoptable l files root asked plan c planned taken).distinct;
    }

    pub next_given : (new : Pool) → AreEntered plan.adopted pool new → free_slots new ≡ free_slots pool → AreNext plan.given new
    next_given new entered same = subst (λ given. AreNext given new) (sym planned.given') (record {
      slots' = seconds (wanted_by l.modules plan.joining plan.scope) (free_slots (pool_of l.modules.plan l.modules.addrs)) planned.enough ∙ ap (take (length (given_by l.modules plan.joining plan.scope))) (sym free_same);
      fresh = each_first (wanted_by l.modules plan.joining plan.scope) (free_slots (pool_of l.modules.plan l.modules.addrs)) (λ f. get new.addrs f ≡ None)
          (All-weaker (λ f. lacks (linkage_for l.modules plan.joining plan.scope) (get l.modules.addrs) (members_of plan.joining) f ≡ true) (λ f. get new.addrs f ≡ None) none
          (wanted_by l.modules plan.joining plan.scope) (all_lack (linkage_for l.modules plan.joining plan.scope) (get l.modules.addrs) (members_of plan.joining)));
      once = pairs_first (wanted_by l.modules plan.joining plan.scope) (free_slots (pool_of l.modules.plan l.modules.addrs)) (λ f g. f ≢ g) (wanted_once (linkage_for l.modules plan.joining plan.scope) (get l.modules.addrs) (members_of plan.joining));
    })
      where
        free_same : free_slots new ≡ free_slots (pool_of l.modules.plan l.modules.addrs)
        free_same = same ∙ same_free pool (pool_of l.modules.plan l.modules.addrs) base slots addrs

        none : (f : Func) → lacks (linkage_for l.modules plan.joining plan.scope) (get l.modules.addrs) (members_of plan.joining) f ≡ true → get new.addrs f ≡ None
        none f pass =
            let parts = neither (is_some (get l.modules.addrs f)) (is_listed (privates (linkage_for l.modules plan.joining plan.scope) (members_of plan.joining)) f) pass in
            let listed : listed_addr plan.adopted f ≡ None =
            ap (λ es. listed_addr es f) planned.adopted'
            ∙ not_listed (privates (linkage_for l.modules plan.joining plan.scope) (members_of plan.joining)) (λ e. placed_at (map_at plan.maps e.0.module) e.1) f parts.1 in
            entered.addrs' f ∙ ap (λ m. option_or (get m f) (listed_addr plan.adopted f)) addrs ∙ ap (λ o. option_or o (listed_addr plan.adopted f)) (none_of (get l.modules.addrs f) parts.0) ∙ listed
