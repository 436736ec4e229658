-- The stubs, the load maps and the slots of descriptors that are left.
use Rattle.std.proofs.Common.{◌≡◌, ◌≢◌, ℕ, ◌+◌, ◌-◌, ◌<◌, ◌≤◌, inl, inr, true, false, List, ◌∷◌, [], length, Option, Some, None, sym, ap, subst, ◌∙◌, arith}
use Rattle.std.specs.Prelude.{Contains, option_map}
use Rattle.std.specs.FinMap.{get}
use Rattle.std.specs.Option.{option_map_or}
use Rattle.std.proofs.lemmas.Bool.{cases_Bool, false≢true}
use Rattle.fd_base.proofs.Lists.{zip_length}
use Rattle.elf_model.specs.declared.func.Func.{Func}
use Rattle.elf_model.specs.declared.object.Object.{Object}
use Rattle.func_desc.specs.Functions.{has_addr}
use Rattle.func_desc.specs.Pool.{IsSlot, free_slots}
use Rattle.func_desc.proofs.Contained.{free_slots_free}
use Rattle.func_desc.proofs.Values.{func_with, has_addr_of}
use Rattle.load_map.specs.declared.entry.MapEntry.{MapEntry}
use Rattle.load_map.specs.Image as map_image
use Rattle.load_map.specs.Maps.{map_at}
use Rattle.load_map.specs.Translation.{placed}
use Rattle.load_map.proofs.Imaged.{length-bytes_of_map}
use Rattle.load_model.specs.declared.layout.TheConstants.{RESOLVER, RESOLVER_WORDS, THREAD_END, END_WORDS, LOAD_MAP_SIZE}
use Rattle.load_model.specs.declared.module.SymbolicProcess.{SymbolicProcess}
use Rattle.load_model.specs.declared.plan.MemPlan.{MemPlan}
use Rattle.load_model.specs.declared.plan.TheConstants.{DESCRIPTOR_SIZE}
use Rattle.load_model.specs.Image.{Placing, got_of, load_map_at, place_of}
use Rattle.load_model.specs.Layout.{HasBytes, HasLoadMap, HasPair, IsBlank, bytes_of_words}
use Rattle.load_model.specs.Process.{object_at}
use Rattle.load_state.specs.Consistent.{HoldsTables, IsConsistent, IsEntryOf}
use Rattle.load_state.specs.Loaded.{Loaded, placing_of, pool_of}
use Rattle.load_laws.proofs.TablesAfter.{live_below}
use Rattle.load_removal.specs.Going.{ModuleSet, MayGo}
use Rattle.load_removal.specs.TakenOut.{IsOfOthers, IsTakenOut}
use Rattle.load_removal.proofs.LeftOver.{address_before, address_stays, map_stays}
use Rattle.load_removal.proofs.OthersAddresses.{below_maps, in_load_map, in_slot}
use Rattle.load_removal.proofs.StayingModules.{object_before, object_none, object_stays}

module _ (l new : Loaded) (gone : ModuleSet) (c : IsConsistent l) (may : MayGo l.modules.process gone) (taken : IsTakenOut l gone new) where
  abbrev p : SymbolicProcess
  p = l.modules.process

  abbrev q : SymbolicProcess
  q = new.modules.process

  abbrev before : Placing
  before = placing_of p l.modules.maps l.modules.addrs

  abbrev after : Placing
  after = placing_of q new.modules.maps new.modules.addrs

  -- ---- bytes of others

  same_bytes : (start : ℕ) (bytes : List ℕ) → ((i : ℕ) → i < length bytes → IsOfOthers l.modules gone (start + i))
      → HasBytes l.memory start bytes → HasBytes new.memory start bytes
  same_bytes start bytes off had i lt = (taken.stays (start + i) (off i lt)).byte ∙ had i lt

  same_zeros : (start len : ℕ) → ((i : ℕ) → i < len → IsOfOthers l.modules gone (start + i))
      → IsBlank l.memory start len → IsBlank new.memory start len
  same_zeros start len off had i lt = (taken.stays (start + i) (off i lt)).byte ∙ had i lt

  -- ---- load maps

  short : (m : ℕ) (o : Object) → object_at p m ≡ Some o → length (map_image.bytes_of_map (map_at l.modules.maps m)) ≤ LOAD_MAP_SIZE
  short m o was =
      let standing = c.modules'.standing m o was in
      let count = zip_length (IsEntryOf l.modules.plan) o.segments (map_at l.modules.maps m) standing.mapped in
      omega (arith, length-bytes_of_map (map_at l.modules.maps m), count, standing.sound.few)

  load_map : (m : ℕ) (o : Object) → gone m ≡ false → object_at p m ≡ Some o → HasLoadMap new.memory m (map_at new.modules.maps m)
  load_map m o stays was =
      let few = live_below p m o c.valid was in
      let size = short m o was in
      let had = c.tables.load_maps m o was in
      let n = length (map_image.bytes_of_map (map_at l.modules.maps m)) in
      let off : (i : ℕ) → i < LOAD_MAP_SIZE → IsOfOthers l.modules gone (load_map_at m + i) = λ i lt. in_load_map l gone c may m i few stays lt in
      subst (λ (es : List MapEntry). HasLoadMap new.memory m es) (sym (map_stays l new gone taken m stays)) (record {
        bytes = same_bytes (load_map_at m) (map_image.bytes_of_map (map_at l.modules.maps m)) (λ i lt. off i (omega (arith, lt, size))) had.bytes;
        rest = same_zeros (load_map_at m + n) (LOAD_MAP_SIZE - n)
            (λ i lt.
            let next : load_map_at m + (n + i) ≡ load_map_at m + n + i = omega arith in
            subst (IsOfOthers l.modules gone) next (off (n + i) (omega (arith, lt, size)))) had.rest;
      })

  other_map : (m : ℕ) → m < 64 → object_at q m ≡ None → IsBlank new.memory (load_map_at m) LOAD_MAP_SIZE
  other_map m few none =
      elim (object_none gone p q taken.process' m none) [
        | inl goes ↦ taken.load_maps m few goes
        | inr stays ↦ same_zeros (load_map_at m) LOAD_MAP_SIZE (λ i lt. in_load_map l gone c may m i few stays.0 lt) (c.tables.other_maps m few stays.1)
      ]

  -- ---- slots

  old_slot : (a : ℕ) → IsSlot (pool_of new.modules.plan new.modules.addrs) a → IsSlot (pool_of l.modules.plan l.modules.addrs) a
  old_slot a slot = subst (λ (plan : MemPlan). IsSlot (pool_of plan new.modules.addrs) a) taken.plan' slot

  place_stays : (f : Func) → gone f.module ≡ false → place_of after f ≡ place_of before f
  place_stays f stays = ap (λ (es : List MapEntry). placed es f.value) (map_stays l new gone taken f.module stays)

  got_stays : (m : ℕ) → gone m ≡ false → got_of after m ≡ got_of before m
  got_stays m stays =
      ap (λ (es : List MapEntry). option_map_or (placed es) (after.gots m) 0) (map_stays l new gone taken m stays)
      ∙ ap (λ (o : Option Object). option_map_or (placed (before.maps m)) (option_map (λ (x : Object). x.got) o) 0)
      (object_stays gone p q taken.process' m stays)

  slot_pair : (f : Func) (a : ℕ) → get new.modules.addrs f ≡ Some a → IsSlot (pool_of new.modules.plan new.modules.addrs) a
      → HasPair new.memory a (place_of after f) (got_of after f.module)
  slot_pair f a is slot =
      let was = address_before l new gone taken f a is in
      let slot' = old_slot a slot in
      let others : (g : Func) → gone g.module ≡ true → get l.modules.addrs g ≢ Some a = λ g goes its.
      false≢true (sym was.0 ∙ ap (λ (h : Func). gone h.module) (c.descriptors.distinct f g a was.1 its) ∙ goes) in
      let pair : HasPair new.memory a (place_of before f) (got_of before f.module) =
      same_bytes a (bytes_of_words (place_of before f ∷ got_of before f.module ∷ [])) (λ i lt. in_slot l gone c may a i slot' lt others)
      (c.tables.slots f a was.1 slot') in
      subst (λ (x : ℕ). HasPair new.memory a x (got_of after f.module)) (sym (place_stays f was.0))
      (subst (λ (x : ℕ). HasPair new.memory a (place_of before f) x) (sym (got_stays f.module was.0)) pair)

  -- a slot that is free was free, or a function's that went
  free_slot : (a : ℕ) → Contains (free_slots (pool_of new.modules.plan new.modules.addrs)) a → IsBlank new.memory a DESCRIPTOR_SIZE
  free_slot a there =
      let slot = old_slot a (free_slots_free.slots (pool_of new.modules.plan new.modules.addrs) a there) in
      let unused : (f : Func) → get new.modules.addrs f ≢ Some a = λ f. free_slots_free.unused (pool_of new.modules.plan new.modules.addrs) a f there in
      elim (cases_Bool (has_addr l.modules.addrs a)) [
        | inl had ↦
            let f = func_with l.modules.addrs a had in
            elim (cases_Bool (gone f.0.module)) [
              | inl goes ↦ taken.slots f.0 a goes f.1 slot
              | inr stays ↦ absurd (unused f.0 (address_stays l new gone taken f.0 stays ∙ f.1))
            ]
        | inr free ↦
            let none : (f : Func) → get l.modules.addrs f ≢ Some a = λ f is. false≢true (sym free ∙ has_addr_of l.modules.addrs f a is) in
            same_zeros a DESCRIPTOR_SIZE (λ i lt. in_slot l gone c may a i slot lt (λ f goes. none f))
            (c.tables.free a (free_slots_free.all (pool_of l.modules.plan l.modules.addrs) a slot none))
      ]

  pub tables_left : HoldsTables new
  tables_left = record {
    resolver = same_bytes RESOLVER (bytes_of_words RESOLVER_WORDS) (λ i lt. below_maps l gone c may (RESOLVER + i) (omega arith)) c.tables.resolver;
    ends = same_bytes THREAD_END (bytes_of_words END_WORDS) (λ i lt. below_maps l gone c may (THREAD_END + i) (omega arith)) c.tables.ends;
    load_maps = λ m o here.
        let was = object_before gone p q taken.process' m o here in
        load_map m o was.0 was.1;
    other_maps = other_map;
    slots = slot_pair;
    free = free_slot;
  }
