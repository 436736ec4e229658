-- What a loader has still holds where its memory keeps what is watched.
use Rattle.std.proofs.Common.{◌≡◌, ℕ, ◌+◌, ◌-◌, ◌<◌, ◌≤◌, inl, inr, true, length, Some, refl, sym, subst, ◌∙◌, arith}
use Rattle.elf_model.specs.declared.object.Object.{Object}
use Rattle.func_desc.specs.Pool.{IsSlot}
use Rattle.func_desc.proofs.Contained.{free_slots_free}
use Rattle.guest_mem.specs.declared.kind.MemKind.TheVariants.{Code, Fixed}
use Rattle.guest_mem.specs.parts.Kept.{Keeps}
use Rattle.guest_mem.specs.Memory.{GuestMemory, byte_at, is_watched}
use Rattle.guest_mem.proofs.Keeping.{is_watched-same}
use Rattle.fd_base.proofs.Lists.{zip_length}
use Rattle.load_map.specs.Image as map_image
use Rattle.load_model.specs.declared.layout.TheConstants.{RESOLVER, STUBS_END, THREAD_END, LOAD_MAPS, LOAD_MAP_SIZE}
use Rattle.load_model.specs.declared.plan.MemPlan.{MemPlan}
use Rattle.load_model.specs.declared.plan.TheConstants.{DESCRIPTOR_SIZE}
use Rattle.load_model.specs.Plan.{slots_end}
use Rattle.load_model.proofs.PlanParts.{own_slots_below}
use Rattle.load_model.specs.Image.{load_map_at}
use Rattle.load_map.specs.Maps.{map_at}
use Rattle.load_model.specs.Layout.{HasLoadMap, fixed_kind}
use Rattle.load_model.specs.Process.{object_at}
use Rattle.load_map.proofs.Imaged.{length-bytes_of_map}
use Rattle.load_memory.proofs.KeptLayout.{stores_keep-fixed, stores_keep-layout}
use Rattle.fd_base.proofs.Ranges.{is_outside, is_inside}
use Rattle.load_laws.proofs.TablesAfter.{live_below}
use Rattle.load_state.specs.Consistent.{IsConsistent, IsEntryOf, HoldsImages, HoldsTables}
use Rattle.load_state.specs.Loaded.{Loaded, in_memory, pool_of}
use Rattle.load_map.specs.Maps.{map_at}
use Rattle.load_laws.specs.parts.StepLaws.{StepsKeepConsistent}

-- ---- what lies at fixed addresses

in_stubs : (plan : MemPlan) (a : ℕ) → 0x1000 ≤ a → a < 0x1014 → fixed_kind plan a ≡ Some Code
in_stubs plan a above below = rw (is_inside RESOLVER (STUBS_END - RESOLVER) a above (omega arith)) refl

in_tables : (plan : MemPlan) (a : ℕ) → 0x1400 ≤ a → a < slots_end plan → fixed_kind plan a ≡ Some Fixed
in_tables plan a above below =
    rw (is_outside RESOLVER (STUBS_END - RESOLVER) a (inr (omega arith)), is_inside LOAD_MAPS (slots_end plan - LOAD_MAPS) a above (omega arith)) refl

module _ (l : Loaded) (memory : GuestMemory) (c : IsConsistent l) (keeps : Keeps l.memory memory) where
  abbrev later : Loaded
  later = record l { memory = memory }

  stub_stays : (a : ℕ) → 0x1000 ≤ a → a < 0x1014 → byte_at memory a ≡ byte_at l.memory a
  stub_stays a above below =
      stores_keep-fixed l.modules.plan (in_memory l.modules.process l.modules.maps) l.memory memory a Code keeps c.laid_out (in_stubs l.modules.plan a above below) (λ e. cc)

  table_stays : (a : ℕ) → 0x1400 ≤ a → a < slots_end l.modules.plan → byte_at memory a ≡ byte_at l.memory a
  table_stays a above below =
      stores_keep-fixed l.modules.plan (in_memory l.modules.process l.modules.maps) l.memory memory a Fixed keeps c.laid_out (in_tables l.modules.plan a above below) (λ e. cc)

  in_map : (m i : ℕ) → m < 64 → i < LOAD_MAP_SIZE → byte_at memory (load_map_at m + i) ≡ byte_at l.memory (load_map_at m + i)
  in_map m i few lt = table_stays (load_map_at m + i) (omega arith) (omega (arith, few, lt, c.fits.some_processes))

  in_slot : (a i : ℕ) → IsSlot (pool_of l.modules.plan l.modules.addrs) a → i < DESCRIPTOR_SIZE → byte_at memory (a + i) ≡ byte_at l.memory (a + i)
  in_slot a i slot lt = table_stays (a + i) (omega (arith, slot.2)) (omega (arith, slot.1, slot.2, own_slots_below l.modules.plan c.fits))

  -- ---- what the memory holds

  images_hold : HoldsImages later
  images_hold = record {
    bytes = λ m o live k e at i lt watched.
        let was : is_watched l.memory (e.addr + i) ≡ true = sym (is_watched-same l.memory memory (e.addr + i) keeps.kinds keeps.marks) ∙ watched in
        keeps.bytes (e.addr + i) (inl was) ∙ c.images.bytes m o live k e at i lt was;
  }

  short : (m : ℕ) (o : Object) → object_at l.modules.process m ≡ Some o → length (map_image.bytes_of_map (map_at l.modules.maps m)) ≤ LOAD_MAP_SIZE
  short m o live =
      let standing = c.modules'.standing m o live in
      let count = zip_length (IsEntryOf l.modules.plan) o.segments (map_at l.modules.maps m) standing.mapped in
      omega (arith, length-bytes_of_map (map_at l.modules.maps m), count, standing.sound.few)

  load_map_holds : (m : ℕ) (o : Object) → object_at l.modules.process m ≡ Some o → HasLoadMap memory m (map_at l.modules.maps m)
  load_map_holds m o live =
      let few = live_below l.modules.process m o c.valid live in
      let size = short m o live in
      let was = c.tables.load_maps m o live in
      let n = length (map_image.bytes_of_map (map_at l.modules.maps m)) in
      record {
        bytes = λ i lt. in_map m i few (omega (arith, lt, size)) ∙ was.bytes i lt;
        rest = λ i lt.
            let next : load_map_at m + (n + i) ≡ load_map_at m + n + i = omega arith in
            subst (λ (a : ℕ). byte_at memory a ≡ byte_at l.memory a) next (in_map m (n + i) few (omega (arith, lt, size))) ∙ was.rest i lt;
      }

  tables_hold : HoldsTables later
  tables_hold = record {
    resolver = λ i lt. stub_stays (RESOLVER + i) (omega arith) (omega (arith, lt)) ∙ c.tables.resolver i lt;
    ends = λ i lt. stub_stays (THREAD_END + i) (omega arith) (omega (arith, lt)) ∙ c.tables.ends i lt;
    load_maps = load_map_holds;
    other_maps = λ m few none i lt. in_map m i few lt ∙ c.tables.other_maps m few none i lt;
    slots = λ f a is slot i lt. in_slot a i slot lt ∙ c.tables.slots f a is slot i lt;
    free = λ a there i lt. in_slot a i (free_slots_free.slots (pool_of l.modules.plan l.modules.addrs) a there) lt ∙ c.tables.free a there i lt;
  }

  stays : IsConsistent later
  stays = record {
    fits = c.fits;
    valid = c.valid;
    modules' = c.modules';
    ranges = c.ranges;
    descriptors = c.descriptors;
    laid_out = stores_keep-layout l.modules.plan (in_memory l.modules.process l.modules.maps) l.memory memory keeps c.laid_out;
    images = images_hold;
    tables = tables_hold;
  }

pub steps_keep_lem : StepsKeepConsistent
steps_keep_lem l memory c keeps = stays l memory c keeps
