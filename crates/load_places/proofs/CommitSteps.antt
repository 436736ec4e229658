-- The steps of a commit do what a load does.
use Rattle.std.proofs.Common.{◌≡◌, ◌≢◌, ℕ, ◌+◌, ◌<◌, ◌≤◌, inl, inr, Bool, List, length, slice_get, Option, None, sym, ap, subst, ◌∙◌, arith, All}
use Rattle.std.specs.Prelude.{Contains, option_map, slice_index}
use Rattle.std.specs.Option.{option_or}
use Rattle.std.proofs.Math.Path.{fun_ext}
use Rattle.std.proofs.lemmas.List.Elements.{All-contains}
use Rattle.std.proofs.lemmas.Slice.Zip.{AllZip-long}
use Rattle.load_map.specs.declared.entry.MapEntry.{MapEntry}
use Rattle.fd_base.specs.Fetched.{Files}
use Rattle.elf_model.specs.declared.func.Func.{Func}
use Rattle.elf_model.specs.declared.object.Object.{Object}
use Rattle.elf_model.specs.Sound.{IsSound}
use Rattle.guest_mem.specs.Memory.{GuestMemory, byte_at}
use Rattle.guest_mem.proofs.Keeping.{is_watched-same}
use Rattle.load_memory.proofs.KeptLayout.{laid_out_alike, layouts_agree}
use Rattle.symbol_scope.specs.declared.tables.TheConstants.{MAX_MODULES}
use Rattle.load_model.specs.Joined.{Asked}
use Rattle.load_model.specs.declared.module.Joining.{Joining}
use Rattle.load_model.specs.declared.plan.MemPlan.{MemPlan}
use Rattle.load_model.specs.declared.plan.TheConstants.{DESCRIPTOR_SIZE}
use Rattle.load_model.specs.Definition.{Linkage}
use Rattle.load_model.specs.Image.{load_map_at, IsImage, IsPart, Placing, got_of, image_of, place_of}
use Rattle.load_map.specs.Maps.{map_at}
use Rattle.load_model.specs.Layout.{HasLoadMap, HasPair, InMemory, IsLaidOut}
use Rattle.load_model.specs.Linkage.{joining_at, linkage_of}
use Rattle.load_model.specs.Plan.{slots_end, low_of}
use Rattle.load_model.proofs.PlanParts.{low_above}
use Rattle.load_model.specs.Process.{object_at}
use Rattle.load_model.specs.Unbound.{unbound_at_first, unbound_of}
use Rattle.load_process.proofs.WalkFacts.{at_number}
use Rattle.load_process.specs.parts.TakenObjects.{IsTaken}
use Rattle.load_places.specs.parts.Modules.{HasModulesPut, HasParts, with_modules}
use Rattle.load_state.specs.declared.plan.GroupPlan.{GroupPlan}
use Rattle.load_state.specs.Accepted.{IsPlan, linkage_for, placing_by}
use Rattle.load_state.specs.Committed.{HasNewImages, IsCommitted, IsElsewhere, IsSameAt}
use Rattle.load_state.specs.Consistent.{IsConsistent, IsEntryOf}
use Rattle.load_state.specs.Loaded.{Loaded, in_memory, placing_of}
use Rattle.load_map.specs.Maps.{map_at}
use Rattle.load_laws.specs.parts.Premises.{IsExtended}
use Rattle.fd_base.proofs.Options.{none_or}
use Rattle.load_laws.proofs.RangesAfter.{joins_or_not}
use Rattle.fd_base.proofs.Members.{contains_at}
use Rattle.load_laws.proofs.Extension.{extended, first_flags}
use Rattle.load_laws.proofs.NewNumbers.{own_numbers, unused_numbers, sound_of}
use Rattle.load_laws.proofs.FreeSlots.{given_slot}
use Rattle.load_places.specs.parts.Laws.{StepsCommit}
use Rattle.load_places.specs.parts.CommitSteps.{IsEntered}
use Rattle.load_places.specs.parts.Descriptors.{HasDescriptorsPut}
use Rattle.load_places.proofs.GivenSlots.{slot_ends}
use Rattle.load_places.proofs.PairedLists.{member_of_both, second_each}
use Rattle.load_places.proofs.NewSegments.{free_at, map_left, new_entries}
use Rattle.load_places.proofs.MemoryAfter.{load_map_stays, new_at, off_slots, old_at}

module _ (l new : Loaded) (files : Option Files) (root : List ℕ) (asked : Asked) (plan : GroupPlan) (between : GuestMemory)
    (consistent : IsConsistent l) (planned : IsPlan l.modules files root asked plan) (taken : All (λ j. IsTaken j.object) plan.joining)
    (entered : IsEntered l.modules plan new.modules) (put : HasModulesPut plan.joining plan.maps plan.parts l.memory between)
    (slots : HasDescriptorsPut new.modules.process plan.maps plan.given between new.memory) where
  ext : IsExtended l.modules new.modules plan.joining plan.scope
  ext = extended l.modules new.modules files root asked plan consistent.valid planned entered.process'

  map_in : (m : ℕ) → map_at new.modules.maps m ≡ map_at plan.maps m
  map_in m = ap (λ maps. map_at maps m) entered.maps'

  -- ---- the modules in memory

  abbrev old_mods : InMemory
  old_mods = in_memory l.modules.process l.modules.maps

  abbrev all_mods : InMemory
  all_mods = with_modules old_mods plan.joining plan.maps

  object_in : (m : ℕ) → object_at new.modules.process m ≡ option_or (option_map (λ j. j.object) (joining_at plan.joining m)) (object_at l.modules.process m)
  object_in m = ap (λ (q : Linkage). q.objects m) ext.linkage'

  object_left : (m : ℕ) → All (λ j. j.number ≢ m) plan.joining → object_at new.modules.process m ≡ object_at l.modules.process m
  object_left m others =
      elim (none_or (joining_at plan.joining m)) [
        | inl none ↦ object_in m ∙ ap (λ o. option_or (option_map {U = Object} (λ j. j.object) o) (object_at l.modules.process m)) none
        | inr some ↦
            let at = at_number l.modules.process plan.joining m some.0 some.1 in
            absurd (All-contains (λ j. j.number ≢ m) plan.joining some.0 others at.0 at.1)
      ]

  objects_agree : (m : ℕ) → object_at new.modules.process m ≡ all_mods.objects m
  objects_agree m =
      elim (joins_or_not plan.joining m) [
        | inl joined ↦
            let j = joined.0 in
            let at = new_at old_mods plan.joining plan.maps j (own_numbers l.modules files root asked plan planned) joined.1 in
            subst (λ n. object_at new.modules.process n ≡ all_mods.objects n) joined.2 (ext.fresh j joined.1 ∙ sym at.object)
        | inr others ↦ object_left m others ∙ sym (old_at old_mods plan.joining plan.maps m others).object
      ]

  maps_agree : (m : ℕ) → map_at new.modules.maps m ≡ all_mods.maps m
  maps_agree m =
      elim (joins_or_not plan.joining m) [
        | inl joined ↦
            let j = joined.0 in
            let at = new_at old_mods plan.joining plan.maps j (own_numbers l.modules files root asked plan planned) joined.1 in
            subst (λ n. map_at new.modules.maps n ≡ all_mods.maps n) joined.2 (map_in j.number ∙ sym at.map)
        | inr others ↦
            map_in m ∙ map_left l files root asked plan consistent planned taken m others ∙ sym (old_at old_mods plan.joining plan.maps m others).map
      ]

  laid_out : IsLaidOut new.modules.plan (in_memory new.modules.process new.modules.maps) new.memory
  laid_out =
      let free : All (λ j. object_at l.modules.process j.number ≡ None) plan.joining = λ k d lt. (unused_numbers l.modules files root asked plan planned k d lt).1 in
      let first = put.layout l.modules.plan old_mods free consistent.laid_out in
      let both = laid_out_alike l.modules.plan all_mods between new.memory slots.map first in
      subst (λ (p : MemPlan). IsLaidOut p (in_memory new.modules.process new.modules.maps) new.memory) (sym entered.plan')
      (layouts_agree l.modules.plan all_mods (in_memory new.modules.process new.modules.maps) new.memory objects_agree maps_agree both)

  -- ---- what the descriptors leave

  slot_between : (f : Func) (at : ℕ) → Contains plan.given (f, at) → (load_map_at MAX_MODULES ≤ at) × (at + DESCRIPTOR_SIZE ≤ slots_end l.modules.plan)
  slot_between f at there =
      let slot = given_slot l.modules files root asked plan planned f at there in
      (omega (arith, consistent.fits.some_processes, slot.2), slot_ends l.modules.plan l.modules.addrs at consistent.fits slot)

  same_below : (a : ℕ) → a < load_map_at MAX_MODULES → byte_at new.memory a ≡ byte_at between a
  same_below a below = slots.stays a (off_slots plan.given (slots_end l.modules.plan) a slot_between (inl below))

  same_above : (a : ℕ) → slots_end l.modules.plan ≤ a → byte_at new.memory a ≡ byte_at between a
  same_above a above = slots.stays a (off_slots plan.given (slots_end l.modules.plan) a slot_between (inr above))

  -- ---- images

  same_linkage : linkage_for l.modules plan.joining plan.scope ≡ linkage_of new.modules.process
  same_linkage = sym ext.linkage'

  abbrev made : (ℕ → List MapEntry) → (ℕ → Option ℕ) → (Func → Option ℕ) → Placing
  made maps gots descriptors = record { maps = maps; gots = gots; load_maps = load_map_at; descriptors = descriptors }

  same_placing : placing_by l.modules.process l.modules.addrs plan.joining plan.maps plan.adopted plan.given ≡ placing_of new.modules.process new.modules.maps new.modules.addrs
  same_placing =
      let p = placing_by l.modules.process l.modules.addrs plan.joining plan.maps plan.adopted plan.given in
      let gots = fun_ext (λ m. ap (option_map {U = ℕ} (λ (o : Object). o.got)) (sym (object_in m))) in
      let n = placing_of new.modules.process new.modules.maps new.modules.addrs in
      ap (λ maps. made (map_at maps) p.gots p.descriptors) (sym entered.maps') ∙ ap (λ g. made n.maps g p.descriptors) gots
      ∙ ap (made n.maps n.gots) (fun_ext (λ f. sym (entered.addrs' f)))

  same_image : (m : ℕ) (o : Object) (unbound : List Bool) (v : ℕ)
      → image_of (linkage_for l.modules plan.joining plan.scope) (placing_by l.modules.process l.modules.addrs plan.joining plan.maps plan.adopted plan.given) m o unbound v
      ≡ image_of (linkage_of new.modules.process) (placing_of new.modules.process new.modules.maps new.modules.addrs) m o unbound v
  same_image m o unbound v =
      ap (λ q. image_of q (placing_by l.modules.process l.modules.addrs plan.joining plan.maps plan.adopted plan.given) m o unbound v) same_linkage
      ∙ ap (λ p. image_of (linkage_of new.modules.process) p m o unbound v) same_placing

  abbrev IsFilled : MapEntry → List ℕ → Type 0
  IsFilled e part = (i : ℕ) → i < e.memsz → byte_at between (e.addr + i) ≡ slice_index part i

  images : HasNewImages new plan.joining
  images j k e there at i lt =
      let es = map_at plan.maps j.number in
      let first : List Bool = unbound_at_first plan.lazy j.object in
      let flags : unbound_of new.modules.process j.number ≡ first =
      first_flags l.modules new.modules files root asked plan consistent.valid planned entered.process' j there in
      let q = linkage_for l.modules plan.joining plan.scope in
      let p = placing_by l.modules.process l.modules.addrs plan.joining plan.maps plan.adopted plan.given in
      let listed : Contains es e = contains_at es k e (ap (λ (xs : List MapEntry). slice_get xs k) (sym (map_in j.number)) ∙ at) in
      let parts = member_of_both (HasParts between plan.maps) (λ i parts. IsImage q p i.number i.object (unbound_at_first plan.lazy i.object) (map_at plan.maps i.number) parts)
      plan.joining plan.parts j put.bytes planned.parts' there in
      let part = member_of_both IsFilled (IsPart q p j.number j.object first) es parts.0 e parts.1 parts.2 listed in
      let low : low_of l.modules.plan ≤ e.addr = All-contains (λ (d : MapEntry). low_of l.modules.plan ≤ d.addr) es e
      (second_each (IsEntryOf l.modules.plan) (λ d. low_of l.modules.plan ≤ d.addr) (λ s d entry. entry.above) j.object.segments es
      (new_entries l files root asked plan consistent planned taken j there)) listed in
      let above : slots_end l.modules.plan ≤ low_of l.modules.plan = low_above l.modules.plan in
      same_above (e.addr + i) (omega arith) ∙ part.1 i lt ∙ part.2.bytes i lt ∙ same_image j.number j.object first (e.vaddr + i)
      ∙ ap (λ unbound. image_of (linkage_of new.modules.process) (placing_of new.modules.process new.modules.maps new.modules.addrs) j.number j.object unbound (e.vaddr + i)) (sym flags)

  -- ---- load maps, descriptors and all else

  load_maps : (j : Joining) → Contains plan.joining j → HasLoadMap new.memory j.number (map_at new.modules.maps j.number)
  load_maps j there =
      let es = map_at plan.maps j.number in
      let same : length es ≡ length j.object.segments =
      AllZip-long (IsEntryOf l.modules.plan) j.object.segments es (new_entries l files root asked plan consistent planned taken j there) in
      let few = (All-contains (λ i. IsSound i.object) plan.joining j (sound_of plan.joining taken) there).few in
      subst (HasLoadMap new.memory j.number) (sym (map_in j.number))
      (load_map_stays between new.memory j.number es (free_at l files root asked plan consistent planned taken j there).0 (omega (arith, same, few))
      same_below (put.load_maps j there))

  pairs : (f : Func) (a : ℕ) → Contains plan.given (f, a)
      → HasPair new.memory a (place_of (placing_of new.modules.process new.modules.maps new.modules.addrs) f) (got_of (placing_of new.modules.process new.modules.maps new.modules.addrs) f.module)
  pairs f a there =
      subst (λ (maps : List (List MapEntry)). HasPair new.memory a (place_of (placing_of new.modules.process maps new.modules.addrs) f)
      (got_of (placing_of new.modules.process maps new.modules.addrs) f.module)) (sym entered.maps') (slots.pairs new.modules.addrs f a there)

  rest : (a : ℕ) → IsElsewhere plan a → IsSameAt l.memory new.memory a
  rest a off =
      let before = put.stays a (record { segments = off.segments; load_maps = off.load_maps }) in
      record {
        byte = slots.stays a off.slots ∙ before.byte;
        watched = is_watched-same between new.memory a slots.map.kinds slots.map.marks ∙ before.watched;
      }

  pub committed : IsCommitted l plan new
  committed = record {
    plan' = entered.plan';
    process' = entered.process';
    maps' = entered.maps';
    held' = entered.held';
    addrs' = entered.addrs';
    laid_out = laid_out;
    images = images;
    load_maps = load_maps;
    slots = pairs;
    stays = rest;
  }

pub steps_commit_lem : StepsCommit
steps_commit_lem l files root asked plan consistent planned taken new between entered put slots =
    committed l new files root asked plan between consistent planned taken entered put slots
