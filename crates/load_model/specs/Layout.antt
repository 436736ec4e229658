-- Where things lie in the memory of a process, and what no store changes. The parts of the memory are this loader's own;
-- that each segment of a module is placed by itself is the FDPIC ABI's ("Load maps").
use Rattle.std.specs.Prelude.{◌≡◌, ◌≢◌, ℕ, ◌+◌, ◌-◌, ◌<◌, true, false, ◌==◌, List, [], ◌∷◌, length, map, filter, slice_index, slice_get, Option, Some, None, Contains, if◌then◌else◌}
use Rattle.std.specs.List.{flat_map}
use Rattle.std.specs.Int.{w32, to_le_bytes}
use Rattle.fd_base.specs.Ranges.{is_in}
use Rattle.load_map.specs.declared.entry.MapEntry.{MapEntry}
use Rattle.elf_model.specs.declared.constants.TheConstants.{PF_W, PF_X, R_ARM_FUNCDESC_VALUE}
use Rattle.elf_model.specs.declared.object.Object.{Object}
use Rattle.elf_model.specs.declared.object.Segment.{Segment}
use Rattle.elf_model.specs.Segments.{has_flag}
use Rattle.guest_mem.specs.declared.kind.MemKind.{MemKind}
use Rattle.guest_mem.specs.declared.kind.MemKind.TheVariants.{Code, Data, Fixed}
use Rattle.guest_mem.specs.Memory.{GuestMemory, IsMemory, HaveKind, byte_at, kind_at, is_marked, is_watched}
use Rattle.load_map.specs.Image as map_image
use Rattle.load_model.specs.declared.layout.TheConstants.{RESOLVER, STUBS_END, LOAD_MAPS, LOAD_MAP_SIZE}
use Rattle.load_model.specs.declared.plan.MemPlan.{MemPlan}
use Rattle.load_model.specs.Image.{load_map_at}
use Rattle.load_map.specs.Translation.{placed}
use Rattle.load_model.specs.Plan.{high_of, slots_end}
use Rattle.elf_model.specs.Filled.{site_relocations}

-- ---- kinds

-- a segment is mapped as Code where it is executable, else as Data where it is writable, else as Fixed
abbrev pub kind_of_segment : Segment → MemKind
kind_of_segment s = if has_flag s.flags PF_X then Code else if has_flag s.flags PF_W then Data else Fixed

-- what lies at an address besides modules: the stubs, then load maps and descriptors, and at the top the stacks
abbrev pub fixed_kind : MemPlan → ℕ → Option MemKind
fixed_kind plan a =
    if is_in RESOLVER (STUBS_END - RESOLVER) a then Some Code
    else if is_in LOAD_MAPS (slots_end plan - LOAD_MAPS) a then Some Fixed
    else if is_in (high_of plan) (plan.memory - high_of plan) a then Some Data
    else None

-- ---- the modules in memory: the object and the load map of each number
pub record InMemory : Type 0 where
  pub objects : ℕ → Option Object
  pub maps : ℕ → List MapEntry

-- a segment of module m, and where it is placed
pub record LiesAt (mods : InMemory) (m : ℕ) (s : Segment) (e : MapEntry) : Type 0 where
  pub object' : Object
  pub live : mods.objects m ≡ Some object'
  pub k : ℕ
  pub segment : slice_get object'.segments k ≡ Some s
  pub entry : slice_get (mods.maps m) k ≡ Some e

-- the ranges that are watched besides what is Code or Fixed: the placed header of the GOT, and each placed pair of a
-- descriptor
abbrev pub watched_ranges : List MapEntry → Object → List (ℕ × ℕ)
watched_ranges load_map o =
    (placed load_map o.got, 12)
    ∷ map (λ r. (placed load_map r.site, 8)) (filter (λ r. r.kind == R_ARM_FUNCDESC_VALUE) (site_relocations o))

-- the bytes of a range that module m has watched
pub record WatchesAt (mods : InMemory) (m start len : ℕ) : Type 0 where
  pub object' : Object
  pub live : mods.objects m ≡ Some object'
  pub listed : Contains (watched_ranges (mods.maps m) object') (start, len)

-- Each address is mapped as what lies there, and watched where something lies there that no store may change. Marks stand
-- where Data is watched, and nowhere else.
pub record IsLaidOut (plan : MemPlan) (mods : InMemory) (memory : GuestMemory) : Type 0 where
  pub whole : IsMemory memory
  pub size : length memory.bytes ≡ plan.memory
  pub fixed : (a : ℕ) (kind : MemKind) → fixed_kind plan a ≡ Some kind → kind_at memory a ≡ Some kind
  pub segments : (m : ℕ) (s : Segment) (e : MapEntry) → LiesAt mods m s e → HaveKind memory e.addr e.memsz (Some (kind_of_segment s))
  pub rest : (a : ℕ) → fixed_kind plan a ≡ None
      → ((m : ℕ) (s : Segment) (e : MapEntry) → LiesAt mods m s e → is_in e.addr e.memsz a ≡ false) → kind_at memory a ≡ None
  pub watched : (m start len a : ℕ) → WatchesAt mods m start len → is_in start len a ≡ true → is_watched memory a ≡ true
  pub unwatched : (a : ℕ) → kind_at memory a ≡ Some Data
      → ((m start len : ℕ) → WatchesAt mods m start len → is_in start len a ≡ false) → is_watched memory a ≡ false
  pub unmarked : (a : ℕ) → kind_at memory a ≢ Some Data → is_marked memory a ≡ false

-- ---- tables

-- words that stand from an address on
abbrev pub HasBytes : GuestMemory → ℕ → List ℕ → Type 0
HasBytes memory start bytes = (i : ℕ) → i < length bytes → byte_at memory (start + i) ≡ slice_index bytes i

abbrev pub bytes_of_words : List ℕ → List ℕ
bytes_of_words words = flat_map (to_le_bytes w32) words

-- a range of zeros
abbrev pub IsBlank : GuestMemory → ℕ → ℕ → Type 0
IsBlank memory start len = (i : ℕ) → i < len → byte_at memory (start + i) ≡ 0

-- what stands in the load map of a number: that of the module, and zeros behind it
pub record HasLoadMap (memory : GuestMemory) (m : ℕ) (load_map : List MapEntry) : Type 0 where
  pub bytes : HasBytes memory (load_map_at m) (map_image.bytes_of_map load_map)
  pub rest : IsBlank memory (load_map_at m + length (map_image.bytes_of_map load_map)) (LOAD_MAP_SIZE - length (map_image.bytes_of_map load_map))

-- the two words of a descriptor
abbrev pub HasPair : GuestMemory → ℕ → ℕ → ℕ → Type 0
HasPair memory at code got = HasBytes memory at (bytes_of_words (code ∷ got ∷ []))
