-- What a loader holds: the modules of one process, where they are placed, and their memory.
use Rattle.std.specs.Prelude.{◌≡◌, ℕ, List, Option, option_map}
use Rattle.std.specs.FinMap.{get}
use Rattle.load_map.specs.declared.entry.MapEntry.{MapEntry}
use Rattle.func_desc.specs.Functions.{AddrMap}
use Rattle.func_desc.specs.Pool.{Pool}
use Rattle.guest_mem.specs.Memory.{GuestMemory}
use Rattle.placement.specs.declared.item.Held.{Held}
use Rattle.load_model.specs.declared.module.SymbolicProcess.{SymbolicProcess}
use Rattle.load_model.specs.declared.plan.MemPlan.{MemPlan}
use Rattle.load_model.specs.Image.{Placing, load_map_at}
use Rattle.load_map.specs.Maps.{map_at}
use Rattle.load_map.specs.Translation.{placed}
use Rattle.load_model.specs.Layout.{InMemory}
use Rattle.load_model.specs.Plan.{descriptors_at}
use Rattle.load_model.specs.Process.{object_at}

-- what is placed, in a memory plan that never changes
pub record LoadedModules : Type 0 where
  pub plan : MemPlan
  -- without addresses
  pub process : SymbolicProcess
  -- the load map of each module by number, which is empty where none is live
  pub maps : List (List MapEntry)
  -- the ranges of the placed segments
  pub held : List Held
  -- the address of each function's descriptor
  pub addrs : AddrMap

pub record Loaded : Type 0 where
  pub modules : LoadedModules
  pub memory : GuestMemory

-- a loader: what it holds, for how many more ranges and adopted descriptors there is room, and for the tables of how many
-- numbers from 0 on
pub record LoaderState : Type 0 where
  pub loaded : Loaded
  pub range_room : ℕ
  pub descriptor_room : ℕ
  pub table_room : ℕ

-- The same. Room that is reserved counts for nothing.
abbrev pub IsUnchanged : LoaderState → LoaderState → Type 0
IsUnchanged old new = new.loaded ≡ old.loaded

-- the modules in memory
abbrev pub in_memory : SymbolicProcess → List (List MapEntry) → InMemory
in_memory p maps = record { objects = object_at p; maps = map_at maps }

-- where the modules of a process are placed
abbrev pub placing_of : SymbolicProcess → List (List MapEntry) → AddrMap → Placing
placing_of p maps addrs = record {
  maps = map_at maps;
  gots = λ m. option_map (λ o. o.got) (object_at p m);
  load_maps = load_map_at;
  descriptors = get addrs;
}

-- the placed address of a live module's GOT
abbrev pub got_at : SymbolicProcess → List (List MapEntry) → ℕ → Option ℕ
got_at p maps m = option_map (λ o. placed (map_at maps m) o.got) (object_at p m)

-- the slots of descriptors
abbrev pub pool_of : MemPlan → AddrMap → Pool
pool_of plan addrs = record { base = descriptors_at plan; slots = plan.descriptors; addrs = addrs; room = 0 }
