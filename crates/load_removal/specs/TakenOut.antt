-- What taking modules out of a loader does: their ranges, load maps and slots of descriptors are free again.
use Rattle.std.specs.Prelude.{◌≡◌, ℕ, ◌<◌, true, false, not, List, [], map, filter, slice_get, Some, None, if◌then◌else◌}
use Rattle.std.specs.FinMap.{get}
use Rattle.std.specs.List.{enumerate_from}
use Rattle.fd_base.specs.Ranges.{is_in}
use Rattle.elf_model.specs.declared.func.Func.{Func}
use Rattle.func_desc.specs.Pool.{IsSlot}
use Rattle.load_map.specs.declared.entry.MapEntry.{MapEntry}
use Rattle.load_map.specs.Maps.{map_at}
use Rattle.load_model.specs.declared.layout.TheConstants.{LOAD_MAP_SIZE}
use Rattle.load_model.specs.declared.plan.TheConstants.{DESCRIPTOR_SIZE}
use Rattle.load_model.specs.Image.{load_map_at}
use Rattle.load_model.specs.Layout.{IsBlank, IsLaidOut}
use Rattle.symbol_scope.specs.declared.tables.TheConstants.{MAX_MODULES}
use Rattle.load_state.specs.Committed.{IsSameAt}
use Rattle.load_state.specs.Loaded.{Loaded, LoadedModules, in_memory, pool_of}
use Rattle.load_removal.specs.Going.{ModuleSet, process_without}

-- the load maps that are left, by number
abbrev pub maps_left : ModuleSet → List (List MapEntry) → List (List MapEntry)
maps_left gone maps = map (λ e. if gone e.0 then [] else e.1) (enumerate_from 0 maps)

-- an address that no module had which goes: in no segment of one, in no load map and no slot of its descriptors
pub record IsOfOthers (l : LoadedModules) (gone : ModuleSet) (a : ℕ) : Type 0 where
  pub segments : (m k : ℕ) (e : MapEntry) → gone m ≡ true → slice_get (map_at l.maps m) k ≡ Some e → is_in e.addr e.memsz a ≡ false
  pub load_maps : (m : ℕ) → gone m ≡ true → is_in (load_map_at m) LOAD_MAP_SIZE a ≡ false
  pub slots : (f : Func) (at : ℕ) → gone f.module ≡ true → get l.addrs f ≡ Some at → IsSlot (pool_of l.plan l.addrs) at → is_in at DESCRIPTOR_SIZE a ≡ false

-- These modules are gone: their ranges aren't held, their load maps and the slots of their functions are zeros, and all that
-- others have stays.
pub record IsTakenOut (old : Loaded) (gone : ModuleSet) (new : Loaded) : Type 0 where
  pub plan' : new.modules.plan ≡ old.modules.plan
  pub process' : new.modules.process ≡ process_without gone old.modules.process
  pub maps' : new.modules.maps ≡ maps_left gone old.modules.maps
  pub held' : new.modules.held ≡ filter (λ r. not (gone r.owner)) old.modules.held
  pub addrs' : (f : Func) → get new.modules.addrs f ≡ (if gone f.module then None else get old.modules.addrs f)
  pub laid_out : IsLaidOut new.modules.plan (in_memory new.modules.process new.modules.maps) new.memory
  pub load_maps : (m : ℕ) → m < MAX_MODULES → gone m ≡ true → IsBlank new.memory (load_map_at m) LOAD_MAP_SIZE
  pub slots : (f : Func) (a : ℕ) → gone f.module ≡ true → get old.modules.addrs f ≡ Some a → IsSlot (pool_of old.modules.plan old.modules.addrs) a
      → IsBlank new.memory a DESCRIPTOR_SIZE
  pub stays : (a : ℕ) → IsOfOthers old.modules gone a → IsSameAt old.memory new.memory a
