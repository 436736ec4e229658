-- The new modules of an accepted load.
use Rattle.std.proofs.Common.{◌≡◌, ℕ, ◌<◌, List, [], ◌∷◌, length, get_or, slice_get, Option, Some, None, refl, sym, ap, subst, ◌∙◌, All}
use Rattle.std.specs.Prelude.{Contains, option_map}
use Rattle.std.specs.FinMap.{get}
use Rattle.std.specs.List.{AllZip, flat_map}
use Rattle.std.specs.Option.{option_or}
use Rattle.std.proofs.lemmas.List.Elements.{All-contains}
use Rattle.fd_base.proofs.Members.{contains_first, flat_map_in, map_in, nothing_in}
use Rattle.fd_base.proofs.Options.{or_stays}
use Rattle.fd_base.specs.Fetched.{Files}
use Rattle.load_map.specs.declared.entry.MapEntry.{MapEntry}
use Rattle.load_map.specs.Maps.{map_at}
use Rattle.load_map.specs.Translation.{placed}
use Rattle.elf_model.specs.declared.func.Func.{Func}
use Rattle.elf_model.specs.declared.object.Object.{Object}
use Rattle.elf_model.specs.Sound.{IsSound}
use Rattle.load_model.specs.declared.error.LoadRefusal.{LoadRefusal}
use Rattle.load_model.specs.declared.module.Joining.{Joining}
use Rattle.load_model.specs.Definition.{Linkage}
use Rattle.load_model.specs.Descriptors.{listed_addr, privates_of}
use Rattle.load_model.specs.Joined.{Asked}
use Rattle.load_model.specs.Linkage.{joining_at, members_of}
use Rattle.load_model.specs.Plan.{low_of, high_of, listed_for}
use Rattle.load_model.specs.Process.{object_at}
use Rattle.load_model.specs.Sites.{refusals_of}
use Rattle.load_process.specs.parts.TakenObjects.{IsTaken}
use Rattle.load_image.specs.Items.{load_map_of}
use Rattle.load_state.specs.declared.plan.GroupPlan.{GroupPlan}
use Rattle.load_state.specs.Accepted.{IsPlan, linkage_for, maps_after}
use Rattle.load_state.specs.Consistent.{IsConsistent}
use Rattle.load_state.specs.Loaded.{Loaded}
use Rattle.load_laws.proofs.ConsistentAfter.{adoptable, placed_items}
use Rattle.load_laws.proofs.GivenSlots.{listed_in}
use Rattle.load_laws.proofs.MapsAfter.{IsMapped, maps_are}
use Rattle.load_laws.proofs.ModulesAfter.{entries}
use Rattle.load_laws.proofs.NewNumbers.{free_numbers_of, own_numbers, sound_of, unused_numbers}
use Rattle.load_laws.proofs.OwnDescriptors.{private_means}
use Rattle.load_laws.proofs.OwnSites.{adopts_first}
use Rattle.link_sites.specs.Loaded.{IsPlacedAs}
use Rattle.link_loads.specs.parts.Laws.{PlansMakeModules}
use Rattle.link_loads.proofs.Modules.{placed_as}

-- ---- where no site is refused, none of each module is

none_first : {X : Type 0} (xs : List X) (x : X) → slice_get xs 0 ≡ None → ¬ Contains xs x
none_first [] x none there = nothing_in x there
none_first (y ∷ xs) x none there = absurd cc

none_refused : (k : Linkage) (joining : List Joining) (j : Joining) → slice_get (flat_map (λ m. refusals_of k m.0 m.1) (members_of joining)) 0 ≡ None → Contains joining j
    → refusals_of k j.number j.object ≡ []
none_refused k joining j none there = by (refusals_of k j.number j.object) refl
  where
    by : (rs : List LoadRefusal) → refusals_of k j.number j.object ≡ rs → refusals_of k j.number j.object ≡ []
    by [] is = is
    by (r ∷ rs) is =
        let here : Contains (refusals_of k j.number j.object) r = subst (λ (qs : List LoadRefusal). Contains qs r) (sym is) (contains_first r r rs refl) in
        let member = map_in (λ (i : Joining). (i.number, i.object)) joining j there in
        absurd (none_first (flat_map (λ m. refusals_of k m.0 m.1) (members_of joining)) r none
        (flat_map_in (λ (m : ℕ × Object). refusals_of k m.0 m.1) (members_of joining) (j.number, j.object) r member here))

-- ---- a plan of a consistent loader

module _ (l : Loaded) (files : Option Files) (root : List ℕ) (asked : Asked) (plan : GroupPlan) (j : Joining) (consistent : IsConsistent l)
    (planned : IsPlan l.modules files root asked plan) (taken : All (λ i. IsTaken i.object) plan.joining) (there : Contains plan.joining j) where
  abbrev linkage : Linkage
  linkage = linkage_for l.modules plan.joining plan.scope

  found : joining_at plan.joining j.number ≡ Some j
  found = All-contains (λ i. joining_at plan.joining i.number ≡ Some i) plan.joining j (free_numbers_of l.modules files root asked plan planned).found there

  live : linkage.objects j.number ≡ Some j.object
  live = ap (λ q. option_or (option_map (λ (i : Joining). i.object) q) (object_at l.modules.process j.number)) found

  below : All (λ i. i.number < length l.modules.maps) plan.joining
  below = λ k d lt.
      subst (λ (n : ℕ). (get_or plan.joining k d).number < n) (sym consistent.modules'.count)
      (unused_numbers l.modules files root asked plan planned k d lt).0

  mapped : AllZip IsPlacedAs j.object.segments (map_at plan.maps j.number)
  mapped =
      let memory = l.modules.plan in
      let own = own_numbers l.modules files root asked plan planned in
      let P = IsMapped (low_of memory) (high_of memory) memory.places (maps_after l.modules.maps plan.joining plan.addrs) in
      let at = All-contains P plan.joining j
      (maps_are (low_of memory) (high_of memory) memory.places plan.joining l.modules.maps l.modules.held plan.addrs own below
      (placed_items l files root asked plan consistent planned taken)) there in
      let es = entries memory at.held j.number j.object.segments (listed_for memory.places j.name) at.addrs at.placed in
      let map' : map_at plan.maps j.number ≡ load_map_of j.object.segments at.addrs = ap (λ maps. map_at maps j.number) planned.maps' ∙ at.map' in
      subst (λ (ms : List MapEntry). AllZip IsPlacedAs j.object.segments ms) (sym map') (placed_as memory j.object.segments (load_map_of j.object.segments at.addrs) es)

  owned : (f : Func) (site : ℕ) → listed_addr (privates_of linkage (j.number, j.object)) f ≡ Some site
      → option_or (get l.modules.addrs f) (option_or (listed_addr plan.adopted f) (listed_addr plan.given f)) ≡ Some (placed (map_at plan.maps j.number) site)
  owned f site listed =
      let number : f.module ≡ j.number = (private_means linkage j.number j.object f site (listed_in (privates_of linkage (j.number, j.object)) f site listed)).own in
      let place : Func × ℕ → ℕ = λ e. placed (map_at plan.maps e.0.module) e.1 in
      let adopted : listed_addr plan.adopted f ≡ Some (place (f, site)) =
      ap (λ es. listed_addr es f) planned.adopted'
      ∙ adopts_first linkage plan.joining j place f site (own_numbers l.modules files root asked plan planned) there number listed in
      let fresh : get l.modules.addrs f ≡ None =
      (adoptable l files root asked plan consistent planned taken).fresh f (place (f, site)) (listed_in plan.adopted f (place (f, site)) adopted) in
      ap (λ q. option_or q (option_or (listed_addr plan.adopted f) (listed_addr plan.given f))) fresh
      ∙ or_stays (listed_addr plan.adopted f) (listed_addr plan.given f) (place (f, site)) adopted
      ∙ ap (λ n. Some (placed (map_at plan.maps n) site)) number

pub plans_make_modules : PlansMakeModules
plans_make_modules l files root asked plan j consistent planned taken there = record {
  sound = All-contains (λ i. IsSound i.object) plan.joining j (sound_of plan.joining taken) there;
  live = live l files root asked plan j consistent planned taken there;
  filled = none_refused (linkage_for l.modules plan.joining plan.scope) plan.joining j planned.filled there;
  mapped = mapped l files root asked plan j consistent planned taken there;
  got' = ap (option_map (λ (o : Object). o.got)) (live l files root asked plan j consistent planned taken there);
  own = owned l files root asked plan j consistent planned taken there;
}
