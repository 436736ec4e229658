-- Where the segments of new modules lie.
use Rattle.std.proofs.Common.{◌≡◌, ◌≢◌, ℕ, ◌<◌, inl, inr, List, length, get_or, Option, Some, refl, sym, ap, subst, ◌∙◌, All}
use Rattle.std.specs.Prelude.{Contains, AllPairs}
use Rattle.std.specs.List.{AllZip}
use Rattle.std.proofs.lemmas.List.Elements.{All-contains}
use Rattle.load_map.specs.declared.entry.MapEntry.{MapEntry}
use Rattle.fd_base.specs.Fetched.{Files}
use Rattle.elf_model.specs.declared.object.Object.{Object}
use Rattle.placement.specs.declared.item.Held.{Held}
use Rattle.placement.specs.Space.{all_held}
use Rattle.load_map.specs.Whole.{PlacedApart}
use Rattle.load_model.specs.Joined.{Asked}
use Rattle.load_model.specs.declared.module.Joining.{Joining}
use Rattle.load_model.specs.Plan.{low_of, high_of, listed_for}
use Rattle.load_model.specs.Process.{object_at}
use Rattle.fd_base.proofs.Members.{all_contained}
use Rattle.load_process.specs.parts.TakenObjects.{IsTaken}
use Rattle.load_state.specs.declared.plan.GroupPlan.{GroupPlan}
use Rattle.load_state.specs.Accepted.{IsPlan, all_items}
use Rattle.load_state.specs.Consistent.{IsConsistent, HasRanges, IsEntryOf}
use Rattle.load_state.specs.Loaded.{Loaded, LoadedModules}
use Rattle.load_map.specs.Maps.{map_at}
use Rattle.load_laws.specs.parts.Premises.{HasFreeNumber}
use Rattle.load_laws.proofs.AddressesApart.{apart_two}
use Rattle.load_laws.proofs.MapsAfter.{IsMapped, map_stays, maps_are}
use Rattle.load_laws.proofs.ModulesAfter.{entries, old_number}
use Rattle.load_laws.proofs.RangesAfter.{range_of, ranges_stay_lem}
use Rattle.load_laws.proofs.SegmentsApart.{placed_apart}
use Rattle.load_laws.proofs.ConsistentAfter.{placed_items}
use Rattle.load_laws.proofs.NewNumbers.{own_numbers, unused_numbers}

-- placed segments of two modules share no address
pub apart_modules : (l : LoadedModules) (m n : ℕ) (d : MapEntry) → HasRanges l → m ≢ n → Contains (map_at l.maps m) d → All (PlacedApart d) (map_at l.maps n)
apart_modules l m n d ranges differ there = all_contained (PlacedApart d) (map_at l.maps n) (λ e at. apart e at)
  where
    apart : (e : MapEntry) → Contains (map_at l.maps n) e → PlacedApart d e
    apart e at =
        let r = range_of m d in
        let q = range_of n e in
        let first = (ranges.held' r).1 (record { entry = d; listed = there; start' = refl; len' = refl }) in
        let second = (ranges.held' q).1 (record { entry = e; listed = at; start' = refl; len' = refl }) in
        elim (apart_two l.held r q ranges.apart first second (λ is. differ (ap (λ (h : Held). h.owner) is))) [
          | inl before ↦ inr before
          | inr behind ↦ inl behind
        ]

module _ (l : Loaded) (files : Option Files) (root : List ℕ) (asked : Asked) (plan : GroupPlan) (consistent : IsConsistent l)
    (planned : IsPlan l.modules files root asked plan) (taken : All (λ j. IsTaken j.object) plan.joining) where
  free_of : All (HasFreeNumber l.modules.process) plan.joining
  free_of = unused_numbers l.modules files root asked plan planned

  pub free_at : (j : Joining) → Contains plan.joining j → HasFreeNumber l.modules.process j
  free_at j there = All-contains (HasFreeNumber l.modules.process) plan.joining j free_of there

  abbrev Mapped : List (List MapEntry) → Joining → Type 0
  Mapped maps = IsMapped (low_of l.modules.plan) (high_of l.modules.plan) l.modules.plan.places maps

  mapped : (j : Joining) → Contains plan.joining j → Mapped plan.maps j
  mapped j there =
      let below : All (λ i. i.number < length l.modules.maps) plan.joining =
      λ k d lt. subst (λ (count : ℕ). (get_or plan.joining k d).number < count) (sym consistent.modules'.count) (free_of k d lt).0 in
      let all = maps_are (low_of l.modules.plan) (high_of l.modules.plan) l.modules.plan.places plan.joining l.modules.maps l.modules.held plan.addrs
      (own_numbers l.modules files root asked plan planned) below (placed_items l files root asked plan consistent planned taken) in
      All-contains (Mapped plan.maps) plan.joining j (subst (λ (maps : List (List MapEntry)). All (Mapped maps) plan.joining) (sym planned.maps') all) there

  -- each segment of a new module has its place
  pub new_entries : (j : Joining) → Contains plan.joining j → AllZip (IsEntryOf l.modules.plan) j.object.segments (map_at plan.maps j.number)
  new_entries j there =
      let at = mapped j there in
      let ss = j.object.segments in
      subst (λ (es : List MapEntry). AllZip (IsEntryOf l.modules.plan) ss es) (sym at.map')
      (entries l.modules.plan at.held j.number ss (listed_for l.modules.plan.places j.name) at.addrs at.placed)

  pub new_apart : (j : Joining) → Contains plan.joining j → AllPairs PlacedApart (map_at plan.maps j.number)
  new_apart j there =
      let at = mapped j there in
      subst (λ (es : List MapEntry). AllPairs PlacedApart es) (sym at.map')
      (placed_apart (low_of l.modules.plan) (high_of l.modules.plan) at.held j.number j.object.segments (listed_for l.modules.plan.places j.name) at.addrs at.placed)

  -- another module keeps its map
  pub map_left : (m : ℕ) → All (λ j. j.number ≢ m) plan.joining → map_at plan.maps m ≡ map_at l.modules.maps m
  map_left m others = ap (λ maps. map_at maps m) planned.maps' ∙ map_stays plan.joining l.modules.maps plan.addrs m others

  pub map_of_old : (m : ℕ) (o : Object) → object_at l.modules.process m ≡ Some o → map_at plan.maps m ≡ map_at l.modules.maps m
  map_of_old m o live = map_left m (old_number l.modules.process plan.joining m o free_of live)

  -- the segments with the new ones
  abbrev after : LoadedModules
  after = record l.modules { maps = plan.maps; held = all_held (all_items l.modules.plan.places plan.joining) plan.addrs l.modules.held }

  pub ranges_after : HasRanges after
  ranges_after =
      ranges_stay_lem l.modules after plan.joining plan.addrs consistent.modules' consistent.ranges (own_numbers l.modules files root asked plan planned) free_of
      (placed_items l files root asked plan consistent planned taken) planned.maps' refl

  pub new_modules_apart : (i j : Joining) → i.number ≢ j.number → All (λ d. All (PlacedApart d) (map_at plan.maps j.number)) (map_at plan.maps i.number)
  new_modules_apart i j differ =
      all_contained (λ d. All (PlacedApart d) (map_at plan.maps j.number)) (map_at plan.maps i.number)
      (λ d there. apart_modules after i.number j.number d ranges_after differ there)

  -- a segment of a live module meets no new one
  pub old_apart : (m : ℕ) (o : Object) (d : MapEntry) (j : Joining) → object_at l.modules.process m ≡ Some o → Contains (map_at l.modules.maps m) d → Contains plan.joining j
      → All (PlacedApart d) (map_at plan.maps j.number)
  old_apart m o d j live there new =
      let others = old_number l.modules.process plan.joining m o free_of live in
      let listed : Contains (map_at plan.maps m) d = subst (λ (es : List MapEntry). Contains es d) (sym (map_left m others)) there in
      apart_modules after m j.number d ranges_after (λ is. All-contains (λ i. i.number ≢ m) plan.joining j others new (sym is)) listed
