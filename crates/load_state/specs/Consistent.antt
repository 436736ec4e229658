-- What holds of every loader: every call keeps it, and so does every step of the program.
use Rattle.std.specs.Prelude.{◌≡◌, ◌≢◌, ℕ, ◌+◌, ◌%◌, ◌<◌, ◌≤◌, ◌↔◌, true, [], length, slice_get, Option, Some, None, option_and_then, Ok, Contains, AllPairs}
use Rattle.std.specs.FinMap.{get}
use Rattle.std.specs.List.{AllZip}
use Rattle.load_map.specs.declared.entry.MapEntry.{MapEntry}
use Rattle.elf_model.specs.declared.func.Func.{Func}
use Rattle.elf_model.specs.declared.object.Object.{Object}
use Rattle.elf_model.specs.declared.object.Rel.{Rel}
use Rattle.elf_model.specs.declared.object.Segment.{Segment}
use Rattle.elf_model.specs.Sound.{IsSound}
use Rattle.func_desc.specs.Pool.{IsSlot, free_slots}
use Rattle.guest_mem.specs.Memory.{byte_at, is_watched}
use Rattle.load_map.specs.Whole.{PlacedApart}
use Rattle.placement.specs.declared.item.Held.{Held}
use Rattle.placement.specs.Legal.{unit_of}
use Rattle.placement.specs.Space.{AreApart}
use Rattle.symbol_scope.specs.declared.tables.TheConstants.{MAX_MODULES}
use Rattle.load_model.specs.declared.layout.TheConstants.{LOAD_MAP_SIZE, RESOLVER, RESOLVER_WORDS, THREAD_END, END_WORDS}
use Rattle.load_model.specs.declared.meaning.SiteValue.TheVariants.{Descriptor}
use Rattle.load_model.specs.declared.plan.MemPlan.{MemPlan}
use Rattle.load_model.specs.declared.plan.TheConstants.{DESCRIPTOR_SIZE}
use Rattle.load_model.specs.Definition.{Linkage}
use Rattle.load_model.specs.Descriptors.{listed_addr, privates_of}
use Rattle.load_model.specs.Image.{image_of, load_map_at, place_of, got_of}
use Rattle.load_map.specs.Maps.{map_at}
use Rattle.load_map.specs.Translation.{placed}
use Rattle.load_model.specs.Layout.{IsLaidOut, HasBytes, HasLoadMap, HasPair, IsBlank, bytes_of_words}
use Rattle.load_model.specs.Linkage.{linkage_of}
use Rattle.load_model.specs.Plan.{Fits, low_of, high_of}
use Rattle.load_model.specs.Process.{object_at, is_live}
use Rattle.load_model.specs.Sites.{refusals_of, site_value}
use Rattle.load_model.specs.Unbound.{unbound_of}
use Rattle.elf_model.specs.Filled.{site_relocations}
use Rattle.load_model.specs.Validity.{IsValid}
use Rattle.load_state.specs.Loaded.{Loaded, LoadedModules, in_memory, placing_of, pool_of}
use Rattle.load_map.specs.Maps.{map_at}

-- a segment lies between the addresses of modules, congruent to its link address
pub record IsEntryOf (plan : MemPlan) (s : Segment) (e : MapEntry) : Type 0 where
  pub vaddr' : e.vaddr ≡ s.vaddr
  pub memsz' : e.memsz ≡ s.memsz
  pub above : low_of plan ≤ e.addr
  pub below : e.addr + e.memsz ≤ high_of plan
  pub congruent : e.addr % unit_of s.align ≡ s.vaddr % unit_of s.align

-- a live module: its object is one that the reader accepts, each of its segments is placed, which meet nowhere, each of its
-- sites is filled, and each function whose descriptor it refers to has one
pub record IsStanding (l : LoadedModules) (m : ℕ) (o : Object) : Type 0 where
  pub sound : IsSound o
  pub mapped : AllZip (IsEntryOf l.plan) o.segments (map_at l.maps m)
  pub apart : AllPairs PlacedApart (map_at l.maps m)
  pub filled : refusals_of (linkage_of l.process) m o ≡ []
  pub described : (r : Rel) (f : Func) → Contains (site_relocations o) r → site_value (linkage_of l.process) m o r ≡ Ok (Descriptor (Some f)) → get l.addrs f ≢ None

pub record HasModules (l : LoadedModules) : Type 0 where
  pub count : length l.maps ≡ MAX_MODULES
  pub standing : (m : ℕ) (o : Object) → object_at l.process m ≡ Some o → IsStanding l m o
  pub others : (m : ℕ) → object_at l.process m ≡ None → map_at l.maps m ≡ []

-- a placed segment of a live module
pub record IsPlacedRange (l : LoadedModules) (r : Held) : Type 0 where
  pub entry : MapEntry
  pub listed : Contains (map_at l.maps r.owner) entry
  pub start' : r.start ≡ entry.addr
  pub len' : r.len ≡ entry.memsz

-- what is held are the placed segments, which meet nowhere
pub record HasRanges (l : LoadedModules) : Type 0 where
  pub held' : (r : Held) → Contains l.held r ↔ IsPlacedRange l r
  pub apart : AreApart l.held

-- the link address of a function's own descriptor: the first of the private ones that its module has of it
abbrev pub own_site : Linkage → Func → Option ℕ
own_site l f = option_and_then (λ o. listed_addr (privates_of l (f.module, o)) f) (l.objects f.module)

-- each function with a private descriptor has the placed address of the first, each other that has an address has a slot,
-- and no two functions share one
pub record HasDescriptors (l : LoadedModules) : Type 0 where
  pub live : (f : Func) (a : ℕ) → get l.addrs f ≡ Some a → is_live l.process f.module ≡ true
  pub own : (f : Func) (site : ℕ) → own_site (linkage_of l.process) f ≡ Some site → get l.addrs f ≡ Some (placed (map_at l.maps f.module) site)
  pub places : (f : Func) (a : ℕ) → own_site (linkage_of l.process) f ≡ None → get l.addrs f ≡ Some a → IsSlot (pool_of l.plan l.addrs) a
  pub distinct : (f g : Func) (a : ℕ) → get l.addrs f ≡ Some a → get l.addrs g ≡ Some a → f ≡ g

-- each watched byte of module m is that of its image, as its slots are bound or not
abbrev pub HoldsImage : Loaded → ℕ → Object → Type 0
HoldsImage l m o =
    (k : ℕ) (e : MapEntry) → slice_get (map_at l.modules.maps m) k ≡ Some e → (i : ℕ) → i < e.memsz → is_watched l.memory (e.addr + i) ≡ true
    → byte_at l.memory (e.addr + i) ≡ image_of (linkage_of l.modules.process) (placing_of l.modules.process l.modules.maps l.modules.addrs)
    m o (unbound_of l.modules.process m) (e.vaddr + i)

-- each live module does
pub record HoldsImages (l : Loaded) : Type 0 where
  pub bytes : (m : ℕ) (o : Object) → object_at l.modules.process m ≡ Some o → HoldsImage l m o

-- the stubs, the load maps and the slots of descriptors
pub record HoldsTables (l : Loaded) : Type 0 where
  pub resolver : HasBytes l.memory RESOLVER (bytes_of_words RESOLVER_WORDS)
  pub ends : HasBytes l.memory THREAD_END (bytes_of_words END_WORDS)
  pub load_maps : (m : ℕ) (o : Object) → object_at l.modules.process m ≡ Some o → HasLoadMap l.memory m (map_at l.modules.maps m)
  pub other_maps : (m : ℕ) → m < MAX_MODULES → object_at l.modules.process m ≡ None → IsBlank l.memory (load_map_at m) LOAD_MAP_SIZE
  pub slots : (f : Func) (a : ℕ) → get l.modules.addrs f ≡ Some a → IsSlot (pool_of l.modules.plan l.modules.addrs) a
      → HasPair l.memory a (place_of (placing_of l.modules.process l.modules.maps l.modules.addrs) f) (got_of (placing_of l.modules.process l.modules.maps l.modules.addrs) f.module)
  pub free : (a : ℕ) → Contains (free_slots (pool_of l.modules.plan l.modules.addrs)) a → IsBlank l.memory a DESCRIPTOR_SIZE

pub record IsConsistent (l : Loaded) : Type 0 where
  pub fits : Fits l.modules.plan
  pub valid : IsValid l.modules.process
  pub modules' : HasModules l.modules
  pub ranges : HasRanges l.modules
  pub descriptors : HasDescriptors l.modules
  pub laid_out : IsLaidOut l.modules.plan (in_memory l.modules.process l.modules.maps) l.memory
  pub images : HoldsImages l
  pub tables : HoldsTables l
