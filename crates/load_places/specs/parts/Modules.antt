-- New modules in memory, besides those that were there.
use Rattle.std.specs.Prelude.{◌≡◌, ℕ, ◌+◌, ◌<◌, false, List, [], ◌∷◌, slice_get, slice_index, Some, None, All, Contains}
use Rattle.std.specs.List.{AllZip}
use Rattle.load_map.specs.declared.entry.MapEntry.{MapEntry}
use Rattle.guest_mem.specs.Memory.{GuestMemory, byte_at}
use Rattle.load_memory.specs.parts.Modules.{with_module}
use Rattle.load_model.specs.declared.layout.TheConstants.{LOAD_MAP_SIZE}
use Rattle.load_model.specs.declared.module.Joining.{Joining}
use Rattle.load_model.specs.declared.plan.MemPlan.{MemPlan}
use Rattle.load_model.specs.Image.{load_map_at}
use Rattle.load_map.specs.Maps.{map_at}
use Rattle.load_model.specs.Layout.{HasLoadMap, InMemory, IsLaidOut}
use Rattle.fd_base.specs.Ranges.{is_in}
use Rattle.load_state.specs.Committed.{IsSameAt}

-- these modules more, one after another
abbrev pub with_modules : InMemory → List Joining → List (List MapEntry) → InMemory
with_modules mods [] maps = mods
with_modules mods (j ∷ joining) maps = with_modules (with_module mods j.number j.object (map_at maps j.number)) joining maps

-- each placed segment of a module has its bytes
abbrev pub HasParts : GuestMemory → List (List MapEntry) → Joining → List (List ℕ) → Type 0
HasParts memory maps j parts =
    AllZip (λ e part. (i : ℕ) → i < e.memsz → byte_at memory (e.addr + i) ≡ slice_index part i) (map_at maps j.number) parts

-- an address in no segment and no load map of new modules
pub record IsOffModules (joining : List Joining) (maps : List (List MapEntry)) (a : ℕ) : Type 0 where
  pub segments : (j : Joining) (k : ℕ) (e : MapEntry) → Contains joining j → slice_get (map_at maps j.number) k ≡ Some e → is_in e.addr e.memsz a ≡ false
  pub load_maps : (j : Joining) → Contains joining j → is_in (load_map_at j.number) LOAD_MAP_SIZE a ≡ false

-- new modules are put into memory: they join those that were there, each with its bytes and its load map, and all else
-- is as it was
pub record HasModulesPut (joining : List Joining) (maps : List (List MapEntry)) (parts : List (List (List ℕ))) (old new : GuestMemory) : Type 0 where
  pub layout : (plan : MemPlan) (mods : InMemory) → All (λ j. mods.objects j.number ≡ None) joining → IsLaidOut plan mods old
      → IsLaidOut plan (with_modules mods joining maps) new
  pub bytes : AllZip (HasParts new maps) joining parts
  pub load_maps : (j : Joining) → Contains joining j → HasLoadMap new j.number (map_at maps j.number)
  pub stays : (a : ℕ) → IsOffModules joining maps a → IsSameAt old new a
