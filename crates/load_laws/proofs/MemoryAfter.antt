-- What the memory holds after a load.
use Rattle.std.proofs.Common.{◌≡◌, ◌≢◌, ℕ, ◌+◌, ◌<◌, ◌≤◌, ◌⊎◌, inl, inr, true, false, List, slice_get, Some, None, refl, sym, ap, subst, ◌∙◌, arith}
use Rattle.std.specs.Prelude.{Contains, is_some, option_map}
use Rattle.std.specs.FinMap.{get}
use Rattle.std.proofs.lemmas.List.Elements.{All-contains}
use Rattle.fd_base.proofs.Members.{contains_at}
use Rattle.fd_base.proofs.Options.{is_some-from_map, map_some, none_or, or_first}
use Rattle.load_map.specs.declared.entry.MapEntry.{MapEntry}
use Rattle.elf_model.specs.declared.object.Object.{Object}
use Rattle.guest_mem.specs.Memory.{byte_at}
use Rattle.placement.specs.declared.item.Held.{Held}
use Rattle.load_model.specs.declared.layout.TheConstants.{LOAD_MAP_SIZE}
use Rattle.load_model.specs.declared.plan.TheConstants.{DESCRIPTOR_SIZE}
use Rattle.load_model.specs.Image.{image_of, load_map_at}
use Rattle.load_map.specs.Maps.{map_at}
use Rattle.fd_base.specs.Ranges.{is_in}
use Rattle.load_model.specs.Linkage.{linkage_of}
use Rattle.load_model.specs.Plan.{low_of}
use Rattle.load_model.proofs.PlanParts.{low_above, own_slots_below}
use Rattle.load_model.specs.declared.module.Joining.{Joining}
use Rattle.load_model.specs.declared.module.Live.{Live}
use Rattle.load_model.specs.Process.{group_scope, is_live, live_at, object_at}
use Rattle.load_model.specs.Unbound.{unbound_of}
use Rattle.load_state.specs.declared.plan.GroupPlan.{GroupPlan}
use Rattle.load_state.specs.Committed.{IsElsewhere}
use Rattle.load_state.specs.Consistent.{HoldsImages, IsEntryOf}
use Rattle.load_state.specs.Loaded.{Loaded, placing_of}
use Rattle.load_map.specs.Maps.{map_at}
use Rattle.load_laws.specs.parts.Grounds.{IsDone}
use Rattle.load_laws.specs.parts.ImageFrame.{IsFramed}
use Rattle.load_laws.specs.parts.Premises.{HasFreeNumber}
use Rattle.load_laws.proofs.AddressesApart.{apart_two}
use Rattle.fd_base.proofs.Ranges.{is_outside}
use Rattle.fd_base.proofs.Lists.{zip_at_right}
use Rattle.load_laws.proofs.ImageFrame.{images_stand_lem}
use Rattle.load_laws.proofs.PlacesAlike.{PlacesAlike}
use Rattle.load_laws.proofs.ModulesAfter.{old_number}

abbrev range_of : ℕ → MapEntry → Held
range_of owner e = record { owner = owner; start = e.addr; len = e.memsz }

-- the places of modules are alike before and after
pub alike : (l new : Loaded) (plan : GroupPlan) → IsDone l plan new
    → PlacesAlike (linkage_of l.modules.process) (placing_of l.modules.process l.modules.maps l.modules.addrs) (placing_of new.modules.process new.modules.maps new.modules.addrs)
alike l new plan done = record {
  maps' = λ m here. same_map m (none_or (object_at l.modules.process m)) here;
  gots' = λ m here. same_got m (none_or (object_at l.modules.process m)) here;
  descriptors' = λ f had. done.committed.addrs' f ∙ or_first (get l.modules.addrs f) _ had;
}
  where
    same_map : (m : ℕ) → (object_at l.modules.process m ≡ None) ⊎ ((o : Object) × (object_at l.modules.process m ≡ Some o)) → is_some (object_at l.modules.process m) ≡ true → map_at new.modules.maps m ≡ map_at l.modules.maps m
    same_map m (inl none) here = let never : false ≡ true = ap is_some (sym none) ∙ here in absurd cc
    same_map m (inr live) here = done.stays m (old_number l.modules.process plan.joining m live.0 done.free live.1)

    same_got : (m : ℕ) → (object_at l.modules.process m ≡ None) ⊎ ((o : Object) × (object_at l.modules.process m ≡ Some o)) → is_some (object_at l.modules.process m) ≡ true
        → option_map (λ (o : Object). o.got) (object_at new.modules.process m) ≡ option_map (λ (o : Object). o.got) (object_at l.modules.process m)
    same_got m (inl none) here = let never : false ≡ true = ap is_some (sym none) ∙ here in absurd cc
    same_got m (inr live) here = ap (option_map (λ (o : Object). o.got)) ((done.ext.old m live.0 live.1).0 ∙ sym live.1)

-- an address of an old module's segment is elsewhere
pub elsewhere : (l new : Loaded) (plan : GroupPlan) (m k : ℕ) (o : Object) (e : MapEntry) (i : ℕ) → IsDone l plan new → object_at l.modules.process m ≡ Some o
    → slice_get (map_at new.modules.maps m) k ≡ Some e → i < e.memsz → IsElsewhere plan (e.addr + i)
elsewhere l new plan m k o e i done live at lt = record {
  segments = λ j n e' joins at'.
      let placed' : slice_get (map_at new.modules.maps j.number) n ≡ Some e' = subst (λ (maps : List (List MapEntry)). slice_get (map_at maps j.number) n ≡ Some e') (sym done.committed.maps') at' in
      let mine : Contains new.modules.held (range_of m e) = (done.ranges.held' (range_of m e)).1 (record { entry = e; listed = contains_at (map_at new.modules.maps m) k e at; start' = refl; len' = refl }) in
      let its : Contains new.modules.held (range_of j.number e') = (done.ranges.held' (range_of j.number e')).1 (record { entry = e'; listed = contains_at (map_at new.modules.maps j.number) n e' placed'; start' = refl; len' = refl }) in
      let other : j.number ≢ m = All-contains (λ i. i.number ≢ m) plan.joining j (old_number l.modules.process plan.joining m o done.free live) joins in
      off_range (range_of j.number e') (apart_two new.modules.held (range_of m e) (range_of j.number e') done.ranges.apart mine its (λ is. other (sym (ap (λ (r : Held). r.owner) is))));
  load_maps = λ j joins.
      let few : j.number < 64 = (All-contains (HasFreeNumber l.modules.process) plan.joining j done.free joins).0 in
      is_outside (load_map_at j.number) LOAD_MAP_SIZE (e.addr + i) (inr (omega (arith, few, above, done.fits.some_processes, low_above l.modules.plan)));
  slots = λ f at'' there.
      let slot = done.slots f at'' there in
      is_outside at'' DESCRIPTOR_SIZE (e.addr + i) (inr (omega (arith, slot.1, slot.2, above, own_slots_below l.modules.plan done.fits, low_above l.modules.plan)));
}
  where
    new_live : object_at new.modules.process m ≡ Some o
    new_live = (done.ext.old m o live).0

    entry : (s : _) × (slice_get o.segments k ≡ Some s) × IsEntryOf new.modules.plan s e
    entry = zip_at_right (IsEntryOf new.modules.plan) o.segments (map_at new.modules.maps m) k e (done.news.standing m o new_live).mapped at

    above : low_of l.modules.plan ≤ e.addr
    above = subst (λ p. low_of p ≤ e.addr) done.committed.plan' entry.2.above

    off_range : (q : Held) → (q.start + q.len ≤ e.addr) ⊎ (e.addr + e.memsz ≤ q.start) → is_in q.start q.len (e.addr + i) ≡ false
    off_range q off = is_outside q.start q.len (e.addr + i) (elim off [ inl h ↦ inr (omega (arith, h)) | inr h ↦ inl (omega (arith, h, lt)) ])

-- ---- images

-- a module that was live is where it was
live_stays : (l new : Loaded) (plan : GroupPlan) → IsDone l plan new → (n : ℕ) → is_live l.modules.process n ≡ true → map_at new.modules.maps n ≡ map_at l.modules.maps n
live_stays l new plan done n live =
    let some = map_some (λ (live : Live). live.object) (live_at l.modules.process n) live in
    done.stays n (old_number l.modules.process plan.joining n some.0 done.free some.1)

-- what the image of an old module stands on is as before
pub framed : (l new : Loaded) (plan : GroupPlan) (m : ℕ) (o : Object) → IsDone l plan new → object_at l.modules.process m ≡ Some o → IsFramed l new m o
framed l new plan m o done was =
    let here : is_live l.modules.process m ≡ true = is_some-from_map (λ (live : Live). live.object) (live_at l.modules.process m) o was in
    let left = done.ext.left m here in
    record {
      live = was;
      agree = record { scopes = left.scope; own = left.own; members = left.objects };
      places = λ n near. elim near [
        | inl is ↦ live_stays l new plan done n (subst (λ (x : ℕ). is_live l.modules.process x ≡ true) (sym is) here)
        | inr there ↦ live_stays l new plan done n (All-contains (λ x. is_live l.modules.process x ≡ true) (group_scope l.modules.process m) n left.members there)
      ];
      descriptors = λ r f there is.
          done.committed.addrs' f ∙ or_first (get l.modules.addrs f) _ ((done.mods.standing m o was).described r f there is);
      flags = done.ext.flags m here;
      bytes = λ k e at i lt watched. done.committed.stays (e.addr + i) (elsewhere l new plan m k o e i done was at lt);
    }

-- each watched byte of a module is that of its image after a load, too
pub images_after : (l new : Loaded) (plan : GroupPlan) → IsDone l plan new → HoldsImages l → HoldsImages new
images_after l new plan done had = record {
  bytes = λ m o live. elim (done.ext.only m o live) [
    | inl was ↦ images_stand_lem l new m o (framed l new plan m o done was) (had.bytes m o was)
    | inr joined ↦ λ k e at i lt watched. new_byte m o joined.0 joined.1 joined.2 joined.3 k e at i lt
  ];
}
  where
    new_byte : (m : ℕ) (o : Object) (j : Joining) → Contains plan.joining j → j.number ≡ m → j.object ≡ o
        → (k : ℕ) (e : MapEntry) → slice_get (map_at new.modules.maps m) k ≡ Some e → (i : ℕ) → i < e.memsz
        → byte_at new.memory (e.addr + i) ≡ image_of (linkage_of new.modules.process) (placing_of new.modules.process new.modules.maps new.modules.addrs)
        m o (unbound_of new.modules.process m) (e.vaddr + i)
    new_byte m o j joins number object k e at i lt =
        let at' : slice_get (map_at new.modules.maps j.number) k ≡ Some e = subst (λ (n : ℕ). slice_get (map_at new.modules.maps n) k ≡ Some e) (sym number) at in
        let image : ℕ → Object → ℕ = λ n x.
        image_of (linkage_of new.modules.process) (placing_of new.modules.process new.modules.maps new.modules.addrs) n x (unbound_of new.modules.process n) (e.vaddr + i) in
        done.committed.images j k e joins at' i lt ∙ ap (image j.number) object ∙ ap (λ n. image n o) number
