-- The stubs, the load maps and the slots of descriptors after a load.
use Rattle.std.proofs.Common.{◌≡◌, ◌≢◌, ℕ, zero, suc, ◌+◌, ◌*◌, ◌<◌, ◌≤◌, ◌⊎◌, inl, inr, true, false, List, [], ◌∷◌, ◌++◌, length, length-append, get_or, slice_get, Option, Some, None, refl, sym, ap, subst, ◌∙◌, arith, All}
use Rattle.std.specs.Prelude.{Contains, is_some, option_map, option_and_then}
use Rattle.std.specs.FinMap.{get}
use Rattle.std.specs.List.{flat_map}
use Rattle.std.proofs.lemmas.Bool.{cases_Bool, false≢true, cases_lt}
use Rattle.std.proofs.lemmas.List.Elements.{All-contains, Contains-get_or}
use Rattle.fd_base.proofs.Lists.{zip_length, zip_at_right}
use Rattle.fd_base.proofs.Options.{or_cases_of_three, or_stays, none_or}
use Rattle.load_map.specs.declared.entry.MapEntry.{MapEntry}
use Rattle.elf_model.specs.declared.func.Func.{Func}
use Rattle.elf_model.specs.declared.object.Object.{Object}
use Rattle.func_desc.specs.Pool.{IsSlot, free_slots}
use Rattle.func_desc.proofs.Contained.{free_slots_free}
use Rattle.load_map.specs.Image as map_image
use Rattle.load_model.specs.declared.layout.TheConstants.{RESOLVER, RESOLVER_WORDS, THREAD_END, END_WORDS, LOAD_MAP_SIZE}
use Rattle.load_model.specs.declared.module.Joining.{Joining}
use Rattle.load_model.specs.declared.plan.MemPlan.{MemPlan}
use Rattle.load_model.specs.declared.plan.TheConstants.{DESCRIPTOR_SIZE}
use Rattle.load_model.specs.Descriptors.{listed_addr, is_same_func}
use Rattle.load_model.specs.Image.{load_map_at, place_of, got_of}
use Rattle.load_map.specs.Maps.{map_at}
use Rattle.load_model.specs.Layout.{HasBytes, HasLoadMap, HasPair, IsBlank, bytes_of_words}
use Rattle.fd_base.specs.Ranges.{is_in}
use Rattle.load_model.specs.Plan.{low_of}
use Rattle.load_model.specs.declared.module.Live.{Live}
use Rattle.load_model.specs.declared.module.SymbolicProcess.{SymbolicProcess}
use Rattle.load_model.specs.Linkage.{linkage_of}
use Rattle.load_model.specs.Process.{object_at, live_at}
use Rattle.load_model.specs.Validity.{IsValid}
use Rattle.load_state.specs.declared.plan.GroupPlan.{GroupPlan}
use Rattle.load_state.specs.Committed.{IsElsewhere}
use Rattle.load_state.specs.Consistent.{IsEntryOf}
use Rattle.load_state.specs.Loaded.{Loaded, placing_of, pool_of}
use Rattle.load_map.specs.Maps.{map_at}
use Rattle.load_laws.specs.parts.Grounds.{IsDone, TablesStay}
use Rattle.load_laws.specs.parts.Premises.{HasFreeNumber}
use Rattle.load_laws.proofs.AddressesApart.{unwrapped}
use Rattle.load_model.proofs.PlanParts.{low_above, own_slots_below}
use Rattle.fd_base.proofs.Ranges.{is_outside}
use Rattle.load_laws.proofs.MemoryAfter.{alike}
use Rattle.load_laws.proofs.PlacesAlike.{same_place, same_got}
use Rattle.load_laws.proofs.ListedDescriptors.{same_decides}
use Rattle.fd_base.proofs.Members.{contains_later, contains_first}
use Rattle.load_laws.proofs.ModulesAfter.{old_number}

-- ---- addresses below the modules

-- a new segment lies above all tables
off_segments : (l new : Loaded) (plan : GroupPlan) (a : ℕ) → IsDone l plan new → a < low_of l.modules.plan
    → (j : Joining) (k : ℕ) (e : MapEntry) → Contains plan.joining j → slice_get (map_at plan.maps j.number) k ≡ Some e → is_in e.addr e.memsz a ≡ false
off_segments l new plan a done low j k e joins at =
    let at' : slice_get (map_at new.modules.maps j.number) k ≡ Some e = subst (λ (maps : List (List MapEntry)). slice_get (map_at maps j.number) k ≡ Some e) (sym done.committed.maps') at in
    let entry = zip_at_right (IsEntryOf new.modules.plan) j.object.segments (map_at new.modules.maps j.number) k e (done.news.standing j.number j.object (done.ext.fresh j joins)).mapped at' in
    let above : low_of l.modules.plan ≤ e.addr = subst (λ p. low_of p ≤ e.addr) done.committed.plan' entry.2.above in
    is_outside e.addr e.memsz a (inl (omega arith))

-- an address below all load maps
below_maps : (l new : Loaded) (plan : GroupPlan) (a : ℕ) → IsDone l plan new → a < 0x1400 → IsElsewhere plan a
below_maps l new plan a done lt = record {
  segments = off_segments l new plan a done (omega (arith, low_above l.modules.plan));
  load_maps = λ j joins. is_outside (load_map_at j.number) LOAD_MAP_SIZE a (inl (omega arith));
  slots = λ f at there. let slot = done.slots f at there in is_outside at DESCRIPTOR_SIZE a (inl (omega (arith, slot.2)));
}

-- an address in the load map of a number that nobody gets
in_load_map : (l new : Loaded) (plan : GroupPlan) (m i : ℕ) → IsDone l plan new → m < 64 → i < LOAD_MAP_SIZE → All (λ j. j.number ≢ m) plan.joining → IsElsewhere plan (load_map_at m + i)
in_load_map l new plan m i done few lt others = record {
  segments = off_segments l new plan (load_map_at m + i) done (omega (arith, done.fits.some_processes, low_above l.modules.plan));
  load_maps = λ j joins.
      let other : j.number ≢ m = All-contains (λ x. x.number ≢ m) plan.joining j others joins in
      is_outside (load_map_at j.number) LOAD_MAP_SIZE (load_map_at m + i) (off_map j.number other);
  slots = λ f at there. let slot = done.slots f at there in is_outside at DESCRIPTOR_SIZE (load_map_at m + i) (inl (omega (arith, done.fits.some_processes, slot.2)));
}
  where
    off_map : (n : ℕ) → n ≢ m → (load_map_at m + i < load_map_at n) ⊎ (load_map_at n + LOAD_MAP_SIZE ≤ load_map_at m + i)
    off_map n other =
        elim (cases_lt n m) [
          | inl less ↦ inr (omega arith)
          | inr most ↦ elim (cases_lt m n) [ inl less ↦ inl (omega (arith, lt)) | inr le ↦ absurd (other (omega arith)) ]
        ]

-- an address in a slot that no function gets
in_slot : (l new : Loaded) (plan : GroupPlan) (a i : ℕ) → IsDone l plan new → IsSlot (pool_of l.modules.plan l.modules.addrs) a → i < DESCRIPTOR_SIZE
    → ((f : Func) (at : ℕ) → Contains plan.given (f, at) → at ≢ a) → IsElsewhere plan (a + i)
in_slot l new plan a i done slot lt others = record {
  segments = off_segments l new plan (a + i) done (omega (arith, slot.1, slot.2, own_slots_below l.modules.plan done.fits, low_above l.modules.plan));
  load_maps = λ j joins.
      let few : j.number < 64 = (All-contains (HasFreeNumber l.modules.process) plan.joining j done.free joins).0 in
      is_outside (load_map_at j.number) LOAD_MAP_SIZE (a + i) (inr (omega (arith, few, done.fits.some_processes, slot.2)));
  slots = λ f at there.
      let its = done.slots f at there in
      is_outside at DESCRIPTOR_SIZE (a + i) (off_slot at its (others f at there));
}
  where
    off_slot : (at : ℕ) → IsSlot (pool_of l.modules.plan l.modules.addrs) at → at ≢ a → (a + i < at) ⊎ (at + DESCRIPTOR_SIZE ≤ a + i)
    off_slot at its other =
        elim (cases_lt at a) [
          | inl less ↦ inr (omega (arith, its.2, slot.2))
          | inr most ↦ elim (cases_lt a at) [ inl less ↦ inl (omega (arith, its.2, slot.2, lt)) | inr le ↦ absurd (other (omega arith)) ]
        ]

-- ---- the bytes of a load map

entries_size : (load_map : List MapEntry) → length (flat_map map_image.entry_bytes load_map) ≡ 12 * length load_map
entries_size [] = refl
entries_size (e ∷ load_map) =
    let rest = entries_size load_map in
    let both : length (map_image.entry_bytes e ++ flat_map map_image.entry_bytes load_map) ≡ length (map_image.entry_bytes e) + length (flat_map map_image.entry_bytes load_map) =
    length-append (map_image.entry_bytes e) (flat_map map_image.entry_bytes load_map) in
    let twelve : length (map_image.entry_bytes e) ≡ 12 = refl in
    omega (arith, rest, both, twelve)

map_size : (load_map : List MapEntry) → length (map_image.bytes_of_map load_map) ≡ 4 + 12 * length load_map
map_size load_map = let rest = entries_size load_map in omega (arith, rest)

-- ---- addresses in lists

-- what a list gives is in the list
pub listed_in : (entries : List (Func × ℕ)) (f : Func) (a : ℕ) → listed_addr entries f ≡ Some a → Contains entries (f, a)
listed_in [] f a is = absurd cc
listed_in (e ∷ entries) f a is =
    elim (cases_Bool (is_same_func f e.0)) [
      | inl here ↦
          let found : Some e.1 ≡ Some a = rw here at is in
          let same : f ≡ e.0 = (same_decides f e.0).0 here in
          contains_first e (f, a) entries (ap (λ (x : ℕ). (e.0, x)) (ap (unwrapped e.1) found) ∙ ap (λ (g : Func). (g, a)) (sym same))
      | inr other ↦ contains_later e (f, a) entries (listed_in entries f a (rw other at is))
    ]

-- ---- what stays where nothing is written

same_bytes : (l new : Loaded) (plan : GroupPlan) (start : ℕ) (bytes : List ℕ) → IsDone l plan new → ((i : ℕ) → i < length bytes → IsElsewhere plan (start + i))
    → HasBytes l.memory start bytes → HasBytes new.memory start bytes
same_bytes l new plan start bytes done off had i lt = (done.committed.stays (start + i) (off i lt)).byte ∙ had i lt

same_zeros : (l new : Loaded) (plan : GroupPlan) (start len : ℕ) → IsDone l plan new → ((i : ℕ) → i < len → IsElsewhere plan (start + i))
    → IsBlank l.memory start len → IsBlank new.memory start len
same_zeros l new plan start len done off had i lt = (done.committed.stays (start + i) (off i lt)).byte ∙ had i lt

get_below : {X : Type 0} (xs : List X) (k : ℕ) (x : X) → slice_get xs k ≡ Some x → k < length xs
get_below [] k x at = absurd cc
get_below (y ∷ xs) zero x at = omega arith
get_below (y ∷ xs) (suc k) x at = omega (arith, get_below xs k x at)

placed_there : (o : Option (Option Live)) → is_some (option_map (λ (live : Live). live.object) (option_and_then (λ (place : Option Live). place) o)) ≡ true → (place : Option Live) × (o ≡ Some place)
placed_there None h = absurd (false≢true h)
placed_there (Some place) h = (place, refl)

-- numbers of live modules are below 64
pub live_below : (p : SymbolicProcess) (m : ℕ) (o : Object) → IsValid p → object_at p m ≡ Some o → m < 64
live_below p m o valid live =
    let place = placed_there (slice_get p.modules m) (ap is_some live) in
    omega (arith, get_below p.modules m place.0 place.1, valid.modules')

some_object : (o : Option Live) → is_some o ≡ true → is_some (option_map (λ (live : Live). live.object) o) ≡ true
some_object None h = absurd (false≢true h)
some_object (Some live) h = refl

pub tables_stay_lem : TablesStay
tables_stay_lem l new plan done gives has had = record {
  resolver = same_bytes l new plan RESOLVER (bytes_of_words RESOLVER_WORDS) done (λ i lt. below_maps l new plan (RESOLVER + i) done (omega arith)) had.resolver;
  ends = same_bytes l new plan THREAD_END (bytes_of_words END_WORDS) done (λ i lt. below_maps l new plan (THREAD_END + i) done (omega arith)) had.ends;
  load_maps = λ m o live. elim (done.ext.only m o live) [
    | inl was ↦ old_map m o was
    | inr joined ↦ subst (λ (n : ℕ). HasLoadMap new.memory n (map_at new.modules.maps n)) joined.2 (done.committed.load_maps joined.0 joined.1)
  ];
  other_maps = λ m few none. others m few none;
  slots = slot_pairs;
  free = free_ones;
}
  where
    short : (m : ℕ) (o : Object) → object_at l.modules.process m ≡ Some o → length (map_image.bytes_of_map (map_at l.modules.maps m)) ≤ 112
    short m o live =
        let standing = done.mods.standing m o live in
        let count = zip_length (IsEntryOf l.modules.plan) o.segments (map_at l.modules.maps m) standing.mapped in
        omega (arith, map_size (map_at l.modules.maps m), count, standing.sound.few)

    below : (m : ℕ) (o : Object) → object_at l.modules.process m ≡ Some o → m < 64
    below m o live = live_below l.modules.process m o done.valid live

    old_map : (m : ℕ) (o : Object) → object_at l.modules.process m ≡ Some o → HasLoadMap new.memory m (map_at new.modules.maps m)
    old_map m o live =
        let not = old_number l.modules.process plan.joining m o done.free live in
        let map' = done.stays m not in
        let size = short m o live in
        let was = had.load_maps m o live in
        let at : (i : ℕ) → i < LOAD_MAP_SIZE → IsElsewhere plan (load_map_at m + i) = λ i lt. in_load_map l new plan m i done (below m o live) lt not in
        subst (λ (es : List MapEntry). HasLoadMap new.memory m es) (sym map') (record {
          bytes = same_bytes l new plan (load_map_at m) (map_image.bytes_of_map (map_at l.modules.maps m)) done (λ i lt. at i (omega arith)) was.bytes;
          rest = λ i lt.
              let next : load_map_at m + length (map_image.bytes_of_map (map_at l.modules.maps m)) + i ≡ load_map_at m + (length (map_image.bytes_of_map (map_at l.modules.maps m)) + i) = omega arith in
              (done.committed.stays (load_map_at m + length (map_image.bytes_of_map (map_at l.modules.maps m)) + i) (subst (λ (a : ℕ). IsElsewhere plan a) (sym next) (at (length (map_image.bytes_of_map (map_at l.modules.maps m)) + i) (omega (arith, lt, size))))).byte ∙ was.rest i lt;
        })

    nothing_new : (m : ℕ) → object_at new.modules.process m ≡ None → (j : Joining) → Contains plan.joining j → j.number ≢ m
    nothing_new m none j joins is =
        let some : None ≡ Some j.object = sym none ∙ subst (λ (n : ℕ). object_at new.modules.process n ≡ Some j.object) is (done.ext.fresh j joins) in
        absurd cc

    others : (m : ℕ) → m < 64 → object_at new.modules.process m ≡ None → IsBlank new.memory (load_map_at m) LOAD_MAP_SIZE
    others m few none =
        elim (none_or (object_at l.modules.process m)) [
          | inl was ↦
              same_zeros l new plan (load_map_at m) LOAD_MAP_SIZE done
              (λ i lt. in_load_map l new plan m i done few lt (λ k d in' is. nothing_new m none (get_or plan.joining k d) (Contains-get_or plan.joining k d in') is))
              (had.other_maps m few was)
          | inr live ↦ let some : None ≡ Some live.0 = sym none ∙ (done.ext.old m live.0 live.1).0 in absurd cc
        ]

    old_slot : (a : ℕ) → IsSlot (pool_of new.modules.plan new.modules.addrs) a → IsSlot (pool_of l.modules.plan l.modules.addrs) a
    old_slot a slot = subst (λ (p : MemPlan). IsSlot (pool_of p new.modules.addrs) a) done.committed.plan' slot

    old_pair : (f : Func) (a : ℕ) → get l.modules.addrs f ≡ Some a → IsSlot (pool_of l.modules.plan l.modules.addrs) a
        → HasPair new.memory a (place_of (placing_of new.modules.process new.modules.maps new.modules.addrs) f) (got_of (placing_of new.modules.process new.modules.maps new.modules.addrs) f.module)
    old_pair f a was slot =
        let p = placing_of l.modules.process l.modules.maps l.modules.addrs in
        let q = placing_of new.modules.process new.modules.maps new.modules.addrs in
        let here : is_some (object_at l.modules.process f.module) ≡ true = some_object (live_at l.modules.process f.module) (has.live f a was) in
        let off : (i : ℕ) → i < 8 → IsElsewhere plan (a + i) = λ i lt. in_slot l new plan a i done slot lt (λ g at there same. gives.unused g f at there (was ∙ ap Some (sym same))) in
        let stays : HasPair new.memory a (place_of p f) (got_of p f.module) =
        same_bytes l new plan a (bytes_of_words (place_of p f ∷ got_of p f.module ∷ [])) done off (had.slots f a was slot) in
        subst (λ (x : ℕ). HasPair new.memory a x (got_of q f.module)) (sym (same_place (linkage_of l.modules.process) p q f (alike l new plan done) here))
        (subst (λ (x : ℕ). HasPair new.memory a (place_of p f) x) (sym (same_got (linkage_of l.modules.process) p q f.module (alike l new plan done) here)) stays)

    slot_pairs : (f : Func) (a : ℕ) → get new.modules.addrs f ≡ Some a → IsSlot (pool_of new.modules.plan new.modules.addrs) a
        → HasPair new.memory a (place_of (placing_of new.modules.process new.modules.maps new.modules.addrs) f) (got_of (placing_of new.modules.process new.modules.maps new.modules.addrs) f.module)
    slot_pairs f a is slot =
        elim (or_cases_of_three (get l.modules.addrs f) (listed_addr plan.adopted f) (listed_addr plan.given f) a (sym (done.committed.addrs' f) ∙ is)) [
          | inl was ↦ old_pair f a was (old_slot a slot)
          | inr rest ↦ elim rest [
            | inl own ↦ absurd (gives.elsewhere f a (listed_in plan.adopted f a own) (old_slot a slot))
            | inr given ↦ done.committed.slots f a (listed_in plan.given f a given)
          ]
        ]

    free_ones : (a : ℕ) → Contains (free_slots (pool_of new.modules.plan new.modules.addrs)) a → IsBlank new.memory a DESCRIPTOR_SIZE
    free_ones a there =
        let slot = old_slot a (free_slots_free.slots (pool_of new.modules.plan new.modules.addrs) a there) in
        let unused : (f : Func) → get new.modules.addrs f ≢ Some a = λ f. free_slots_free.unused (pool_of new.modules.plan new.modules.addrs) a f there in
        let before : (f : Func) → get l.modules.addrs f ≢ Some a = λ f was. unused f (done.committed.addrs' f ∙ or_stays (get l.modules.addrs f) _ a was) in
        let free = free_slots_free.all (pool_of l.modules.plan l.modules.addrs) a slot before in
        same_zeros l new plan a DESCRIPTOR_SIZE done
        (λ i lt. in_slot l new plan a i done slot lt (λ f at given same. unused f (gives.held' f at given ∙ ap Some same)))
        (had.free a free)
