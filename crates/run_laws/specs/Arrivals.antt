-- The arrival of a call (Arm FDPIC ABI, "Procedure Linkage Table" and "Function calls").
use Rattle.std.specs.Prelude.{◌≡◌, ◌≢◌, ℕ, List, get_or, Option, Some, None, option_and_then, option_map, Contains}
use Rattle.elf_model.specs.declared.func.Func.{Func}
use Rattle.elf_model.specs.declared.object.Object.{Object}
use Rattle.elf_model.specs.declared.object.Rel.{Rel}
use Rattle.elf_model.specs.Places.{slot_of}
use Rattle.a32_machine.specs.declared.cpu.Cpu.{Cpu}
use Rattle.a32_machine.specs.Registers.{pc_of}
use Rattle.load_map.specs.Maps.{map_at}
use Rattle.load_map.specs.Translation.{placed}
use Rattle.load_model.specs.Linkage.{linkage_of}
use Rattle.load_model.specs.Process.{object_at}
use Rattle.load_state.specs.Loaded.{Loaded}
use Rattle.load_state.specs.Slots.{slot_function}
use Rattle.run_model.specs.declared.event.Event.TheVariants.{Arrive}
use Rattle.run_model.specs.declared.thread.Call.{Call}
use Rattle.run_model.specs.declared.thread.Thread.{Thread}
use Rattle.placed_code.specs.Places.{got_word}
use Rattle.run_model.specs.State.{State, thread_at}
use Rattle.call_laws.specs.Schedules.{events_from}

-- slot k of live module m leads to this function: the first definition of the slot's symbol in the module's scope
pub record LeadsTo (l : Loaded) (m k : ℕ) (f : Func) : Type 0 where
  pub object' : Object
  pub live : object_at l.modules.process m ≡ Some object'
  pub rel : Rel
  pub is_slot : slot_of object' k ≡ Some rel
  pub leads : slot_function (linkage_of l.modules.process) m object' rel ≡ Some f

-- slot k of live module m leads to no function: its symbol is weak, and has no definition in the module's scope
pub record LeadsNowhere (l : Loaded) (m k : ℕ) : Type 0 where
  pub object' : Object
  pub live : object_at l.modules.process m ≡ Some object'
  pub rel : Rel
  pub is_slot : slot_of object' k ≡ Some rel
  pub nowhere : slot_function (linkage_of l.modules.process) m object' rel ≡ None

-- where slot k of live module m is placed: its link address by the load map of the module
abbrev pub slot_place : Loaded → ℕ → ℕ → Option ℕ
slot_place l m k = option_map (λ rel. placed (map_at l.modules.maps m) rel.site) (option_and_then (λ o. slot_of o k) (object_at l.modules.process m))

-- The pc is at the placed function, r9 is the GOT of its module, and r12 the address of the slot. All other registers, and
-- all flags, are as when the call began.
pub record HasArrived (l : Loaded) (m k : ℕ) (begin now : Cpu) (f : Func) : Type 0 where
  pub pc' : pc_of now ≡ placed (map_at l.modules.maps f.module) f.value
  pub got' : get_or now.r 9 0 ≡ got_word l.modules.process l.modules.maps f.module
  pub slot' : slot_place l m k ≡ Some (get_or now.r 12 0)
  pub others : (i : ℕ) → i ≢ 9 → i ≢ 12 → i ≢ 15 → get_or now.r i 0 ≡ get_or begin.r i 0
  pub n' : now.n ≡ begin.n
  pub z' : now.z ≡ begin.z
  pub c' : now.c ≡ begin.c
  pub v' : now.v ≡ begin.v

-- These turns from a state on have brought thread t, which began this call, to the function, and its line of arrival is
-- among their lines, with the number of steps that are done.
pub record IsArrival (limit : ℕ) (s : State) (turns : List ℕ) (t : ℕ) (begin : Cpu) (call : Call) (f : Func) (later : State) : Type 0 where
  pub now : Thread
  pub lives : thread_at later.threads t ≡ Some now
  pub arrived : HasArrived s.loaded call.number call.slot begin now.cpu f
  pub line : Contains (events_from limit turns s) (Arrive later.steps t f)
