-- What a load does.
use Rattle.std.specs.Prelude.{◌≡◌, ℕ, ◌+◌, ◌<◌, false, List, slice_get, Some, Contains}
use Rattle.std.specs.FinMap.{get}
use Rattle.load_map.specs.declared.entry.MapEntry.{MapEntry}
use Rattle.elf_model.specs.declared.func.Func.{Func}
use Rattle.guest_mem.specs.Memory.{GuestMemory, byte_at, is_watched}
use Rattle.placement.specs.Space.{all_held}
use Rattle.load_model.specs.declared.layout.TheConstants.{LOAD_MAP_SIZE}
use Rattle.load_model.specs.declared.module.Joining.{Joining}
use Rattle.load_model.specs.declared.plan.TheConstants.{DESCRIPTOR_SIZE}
use Rattle.load_model.specs.Descriptors.{descriptors_after}
use Rattle.load_model.specs.Image.{image_of, load_map_at, place_of, got_of}
use Rattle.load_map.specs.Maps.{map_at}
use Rattle.load_model.specs.Joined.{process_after}
use Rattle.load_model.specs.Layout.{IsLaidOut, HasLoadMap, HasPair}
use Rattle.fd_base.specs.Ranges.{is_in}
use Rattle.load_model.specs.Linkage.{linkage_of}
use Rattle.load_model.specs.Unbound.{unbound_of}
use Rattle.load_state.specs.declared.plan.GroupPlan.{GroupPlan}
use Rattle.load_state.specs.Loaded.{Loaded, in_memory, placing_of}
use Rattle.load_map.specs.Maps.{map_at}

-- each byte of a new module is that of its image
abbrev pub HasNewImages : Loaded → List Joining → Type 0
HasNewImages l joining =
    (j : Joining) (k : ℕ) (e : MapEntry) → Contains joining j → slice_get (map_at l.modules.maps j.number) k ≡ Some e
    → (i : ℕ) → i < e.memsz
    → byte_at l.memory (e.addr + i) ≡ image_of (linkage_of l.modules.process) (placing_of l.modules.process l.modules.maps l.modules.addrs)
    j.number j.object (unbound_of l.modules.process j.number) (e.vaddr + i)

-- an address at which the load writes nothing: in no new segment, no new load map and no new descriptor
pub record IsElsewhere (plan : GroupPlan) (a : ℕ) : Type 0 where
  pub segments : (j : Joining) (k : ℕ) (e : MapEntry) → Contains plan.joining j → slice_get (map_at plan.maps j.number) k ≡ Some e → is_in e.addr e.memsz a ≡ false
  pub load_maps : (j : Joining) → Contains plan.joining j → is_in (load_map_at j.number) LOAD_MAP_SIZE a ≡ false
  pub slots : (f : Func) (at : ℕ) → Contains plan.given (f, at) → is_in at DESCRIPTOR_SIZE a ≡ false

-- the same byte, which is watched where it was
pub record IsSameAt (old new : GuestMemory) (a : ℕ) : Type 0 where
  pub byte : byte_at new a ≡ byte_at old a
  pub watched : is_watched new a ≡ is_watched old a

-- The new modules are live, placed where the plan says, and all that was there stays.
pub record IsCommitted (old : Loaded) (plan : GroupPlan) (new : Loaded) : Type 0 where
  pub plan' : new.modules.plan ≡ old.modules.plan
  pub process' : new.modules.process ≡ process_after old.modules.process plan.lazy plan.joining plan.scope plan.global
  pub maps' : new.modules.maps ≡ plan.maps
  pub held' : new.modules.held ≡ all_held plan.items plan.addrs old.modules.held
  pub addrs' : (f : Func) → get new.modules.addrs f ≡ descriptors_after (get old.modules.addrs) plan.adopted plan.given f
  pub laid_out : IsLaidOut new.modules.plan (in_memory new.modules.process new.modules.maps) new.memory
  pub images : HasNewImages new plan.joining
  pub load_maps : (j : Joining) → Contains plan.joining j → HasLoadMap new.memory j.number (map_at new.modules.maps j.number)
  pub slots : (f : Func) (a : ℕ) → Contains plan.given (f, a)
      → HasPair new.memory a (place_of (placing_of new.modules.process new.modules.maps new.modules.addrs) f) (got_of (placing_of new.modules.process new.modules.maps new.modules.addrs) f.module)
  pub stays : (a : ℕ) → IsElsewhere plan a → IsSameAt old.memory new.memory a
