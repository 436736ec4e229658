-- The descriptors after a load.
use Rattle.std.proofs.Common.{◌≡◌, ℕ, inl, inr, true, List, Option, Some, None, refl, sym, ap, subst, ◌∙◌}
use Rattle.std.specs.Prelude.{Contains, is_some, option_map}
use Rattle.std.specs.FinMap.{get}
use Rattle.std.specs.Option.{option_or}
use Rattle.std.proofs.lemmas.List.Elements.{All-contains}
use Rattle.fd_base.proofs.Options.{or_stays}
use Rattle.std.proofs.lemmas.Bool.{false≢true}
use Rattle.elf_model.specs.declared.func.Func.{Func}
use Rattle.elf_model.specs.declared.object.Object.{Object}
use Rattle.func_desc.specs.Pool.{Pool, IsSlot, free_slots}
use Rattle.func_desc.proofs.Contained.{free_slots_free}
use Rattle.load_model.specs.declared.module.Joining.{Joining}
use Rattle.load_model.specs.declared.module.Live.{Live}
use Rattle.load_model.specs.declared.plan.MemPlan.{MemPlan}
use Rattle.load_model.specs.Definition.{Linkage}
use Rattle.load_model.specs.Descriptors.{listed_addr, privates_of}
use Rattle.load_map.specs.Maps.{map_at}
use Rattle.load_map.specs.Translation.{placed as placed_at}
use Rattle.load_model.specs.Linkage.{linkage_of, members_of}
use Rattle.load_model.specs.Process.{live_at, is_live, object_at}
use Rattle.load_model.specs.Sites.{Member}
use Rattle.load_state.specs.Accepted.{linkage_for, wanted_by}
use Rattle.load_state.specs.Consistent.{own_site}
use Rattle.load_state.specs.Loaded.{pool_of}
use Rattle.load_map.specs.Maps.{map_at}
use Rattle.load_laws.proofs.MapsAfter.{map_stays}
use Rattle.load_laws.proofs.ModulesAfter.{old_number}
use Rattle.load_laws.specs.parts.DescriptorLaws.{AreAdoptable, DescriptorsStay}
use Rattle.load_laws.specs.parts.Premises.{HasFreeNumber}
use Rattle.load_laws.proofs.AdoptedDescriptors.{IsAdopted, adopted_means, adoptions_free_lem, no_address}
use Rattle.load_laws.proofs.GivenSlots.{HasFrom, has_from, IsPair, in_zip, one_slot, wanted_object}
use Rattle.load_laws.proofs.OwnSites.{adopts_first, own_means, private_has_own, same_own}
use Rattle.fd_base.proofs.Members.{contains_at}

-- ---- live modules

object_of : (x : Option Live) → is_some x ≡ true → (o : Object) × (option_map (λ live. live.object) x ≡ Some o)
object_of None is = absurd (false≢true is)
object_of (Some live) is = (live.object, refl)

live_with : (x : Option Live) (o : Object) → option_map (λ live. live.object) x ≡ Some o → is_some x ≡ true
live_with None o is = absurd cc
live_with (Some live) o is = refl

-- ---- the law

pub descriptors_stay_lem : DescriptorsStay
descriptors_stay_lem l new joining scope addrs adopted given fits mods ranges had ext own free sound placed plan' maps' adopted' given' addrs' = record {
  live = λ f a is. live f a (from f a is);
  own = own_address;
  places = λ f a none is. place f a none (from f a is);
  distinct = λ f g a p q. one f g a (from f a p) (from g a q);
}
  where
    k : Linkage
    k = linkage_for l joining scope

    pool : Pool
    pool = pool_of l.plan l.addrs

    adoptable : AreAdoptable l adopted
    adoptable = adoptions_free_lem l joining scope addrs new.maps adopted fits mods ranges had own free sound placed maps' adopted'

    from : (f : Func) (a : ℕ) → get new.addrs f ≡ Some a → HasFrom (get l.addrs) adopted given f a
    from f a is = has_from (get l.addrs) adopted given f a (sym (addrs' f) ∙ is)

    private : (f : Func) (a : ℕ) → Contains adopted (f, a) → IsAdopted k new.maps joining f a
    private f a there = adopted_means k new.maps joining f a (subst (λ (es : List (Func × ℕ)). Contains es (f, a)) adopted' there)

    slot : (f : Func) (a : ℕ) → Contains given (f, a) → IsPair (wanted_by l joining scope) (free_slots (pool_of l.plan l.addrs)) f a
    slot f a there = in_zip (wanted_by l joining scope) (free_slots (pool_of l.plan l.addrs)) f a (subst (λ (es : List (Func × ℕ)). Contains es (f, a)) given' there)

    is_free : (f : Func) (a : ℕ) → Contains given (f, a) → Contains (free_slots (pool_of l.plan l.addrs)) a
    is_free f a there = let x = slot f a there in contains_at (free_slots (pool_of l.plan l.addrs)) x.index a x.slot

    same_objects : (m : ℕ) → object_at new.process m ≡ k.objects m
    same_objects m = ap (λ (q : Linkage). q.objects m) ext.linkage'

    joined : (f : Func) (a : ℕ) (x : IsAdopted k new.maps joining f a) → object_at new.process f.module ≡ Some x.joined.object
    joined f a x = subst (λ (m : ℕ). object_at new.process m ≡ Some x.joined.object) (sym x.own.own) (ext.fresh x.joined x.there)

    live : (f : Func) (a : ℕ) → HasFrom (get l.addrs) adopted given f a → is_live new.process f.module ≡ true
    live f a from =
        elim from [
          | inl before ↦
              let o = object_of (live_at l.process f.module) (had.live f a before) in
              live_with (live_at new.process f.module) o.0 (ext.old f.module o.0 o.1).0
          | inr rest ↦ elim rest [
            | inl there ↦ let x = private f a there in live_with (live_at new.process f.module) x.joined.object (joined f a x)
            | inr there ↦
                let x = slot f a there in
                let o = wanted_object k (get l.addrs) (members_of joining) f (contains_at (wanted_by l joining scope) x.index f x.func) in
                live_with (live_at new.process f.module) o.0 (same_objects f.module ∙ o.1)
          ]
        ]

    new_slot : (a : ℕ) → IsSlot pool a → IsSlot (pool_of new.plan new.addrs) a
    new_slot a is = subst (λ (plan : MemPlan). IsSlot (pool_of plan new.addrs) a) (sym plan') is

    map_left : (m : ℕ) (o : Object) → object_at l.process m ≡ Some o → map_at new.maps m ≡ map_at l.maps m
    map_left m o before = ap (λ maps. map_at maps m) maps' ∙ map_stays joining l.maps addrs m (old_number l.process joining m o free before)

    -- a function of a module that was live has the own descriptor that it had
    own_left : (f : Func) (o : Object) → object_at l.process f.module ≡ Some o → own_site (linkage_of new.process) f ≡ own_site (linkage_of l.process) f
    own_left f o before = let still = ext.old f.module o before in same_own (linkage_of new.process) (linkage_of l.process) f o still.0 before still.1

    -- one of a new module is adopted
    adopts : (f : Func) (site : ℕ) (j : Joining) → Contains joining j → j.number ≡ f.module → listed_addr (privates_of k (j.number, j.object)) f ≡ Some site
        → get new.addrs f ≡ Some (placed_at (map_at new.maps f.module) site)
    adopts f site j there number first =
        let place : Func × ℕ → ℕ = λ e. placed_at (map_at new.maps e.0.module) e.1 in
        let dead = (All-contains (HasFreeNumber l.process) joining j free there).1 in
        let none = no_address l f had (subst (λ (m : ℕ). object_at l.process m ≡ None) number dead) in
        let listed : listed_addr adopted f ≡ Some (place (f, site)) = ap (λ es. listed_addr es f) adopted' ∙ adopts_first k joining j place f site own there (sym number) first in
        addrs' f ∙ ap (λ h. option_or h (option_or (listed_addr adopted f) (listed_addr given f))) none
        ∙ or_stays (listed_addr adopted f) (listed_addr given f) (place (f, site)) listed

    own_address : (f : Func) (site : ℕ) → own_site (linkage_of new.process) f ≡ Some site → get new.addrs f ≡ Some (placed_at (map_at new.maps f.module) site)
    own_address f site is =
        let now = own_means (linkage_of new.process) f site is in
        let o = now.object in
        elim (ext.only f.module o now.there) [
          | inl before ↦
              let had_it = had.own f site (sym (own_left f o before) ∙ is) in
              let kept = or_stays (get l.addrs f) (option_or (listed_addr adopted f) (listed_addr given f)) (placed_at (map_at l.maps f.module) site) had_it in
              addrs' f ∙ kept ∙ ap (λ es. Some (placed_at es site)) (sym (map_left f.module o before))
          | inr found ↦
              let j = found.0 in
              let there : listed_addr (privates_of k (f.module, o)) f ≡ Some site = subst (λ (q : Linkage). listed_addr (privates_of q (f.module, o)) f ≡ Some site) ext.linkage' now.first in
              let member : ◌≡◌ {A = Member} (f.module, o) (j.number, j.object) = λ i. (sym found.2 i, sym found.3 i) in
              adopts f site j found.1 found.2 (subst (λ (m : Member). listed_addr (privates_of k m) f ≡ Some site) member there)
        ]

    place : (f : Func) (a : ℕ) → own_site (linkage_of new.process) f ≡ None → HasFrom (get l.addrs) adopted given f a → IsSlot (pool_of new.plan new.addrs) a
    place f a none from =
        elim from [
          | inl before ↦
              let o = object_of (live_at l.process f.module) (had.live f a before) in
              new_slot a (had.places f a (sym (own_left f o.0 o.1) ∙ none) before)
          | inr rest ↦ elim rest [
            | inl there ↦
                let x = private f a there in
                let o = x.joined.object in
                let own' = subst (λ (m : ℕ). Contains (privates_of k (m, o)) (f, x.site)) (sym x.own.own) x.listed in
                let listed = subst (λ (q : Linkage). Contains (privates_of q (f.module, o)) (f, x.site)) (sym ext.linkage') own' in
                absurd (private_has_own (linkage_of new.process) f o x.site (joined f a x) listed none)
            | inr there ↦ new_slot a (free_slots_free.slots pool a (is_free f a there))
          ]
        ]

    -- a given slot is no function's from before, and none that is adopted
    not_had : (f g : Func) (a : ℕ) → get l.addrs f ≡ Some a → Contains given (g, a) → ⊥
    not_had f g a before there = free_slots_free.unused pool a f (is_free g a there) before

    not_own : (f g : Func) (a : ℕ) → Contains adopted (f, a) → Contains given (g, a) → ⊥
    not_own f g a first there = adoptable.no_slot f a first (free_slots_free.slots pool a (is_free g a there))

    one : (f g : Func) (a : ℕ) → HasFrom (get l.addrs) adopted given f a → HasFrom (get l.addrs) adopted given g a → f ≡ g
    one f g a p q =
        elim p [
          | inl before ↦ elim q [
            | inl also ↦ had.distinct f g a before also
            | inr rest ↦ elim rest [
              | inl there ↦ absurd (adoptable.unused g f a there before)
              | inr there ↦ absurd (not_had f g a before there)
            ]
          ]
          | inr first ↦ elim first [
            | inl here ↦ elim q [
              | inl before ↦ absurd (adoptable.unused f g a here before)
              | inr rest ↦ elim rest [
                | inl there ↦ adoptable.distinct f g a here there
                | inr there ↦ absurd (not_own f g a here there)
              ]
            ]
            | inr here ↦ elim q [
              | inl before ↦ absurd (not_had g f a before here)
              | inr rest ↦ elim rest [
                | inl there ↦ absurd (not_own g f a there here)
                | inr there ↦ one_slot (wanted_by l joining scope) (free_slots (pool_of l.plan l.addrs)) f g a (free_slots_free.rising pool) (slot f a here) (slot g a there)
              ]
            ]
          ]
        ]
