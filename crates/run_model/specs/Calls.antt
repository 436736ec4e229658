-- The calls that begin at entries of procedure linkage tables (Arm FDPIC ABI, "Procedure Linkage Table").
use Rattle.std.specs.Prelude.{◌==◌, List, get_or, Option, Some, None, option_and_then, if◌then◌else◌}
use Rattle.load_map.specs.declared.entry.MapEntry.{MapEntry}
use Rattle.a32_machine.specs.declared.cpu.Cpu.{Cpu}
use Rattle.a32_machine.specs.Registers.{pc_of}
use Rattle.load_model.specs.declared.module.SlotOf.{SlotOf}
use Rattle.load_model.specs.declared.module.SymbolicProcess.{SymbolicProcess}
use Rattle.placed_code.specs.Places.{entry_at, got_word}
use Rattle.run_model.specs.declared.thread.Call.{Call}
use Rattle.run_model.specs.declared.thread.TheConstants.{BOUND_CALL}

-- The call through a slot that begins with this cpu, where r9 is the GOT of the slot's module. Slots are bound when their
-- module is loaded.
abbrev pub call_through : SymbolicProcess → List (List MapEntry) → Cpu → SlotOf → Option Call
call_through p maps cpu s =
    if get_or cpu.r 9 0 == got_word p maps s.module then Some (record { number = s.module; slot = s.slot; length = BOUND_CALL; done = 0; begin = cpu }) else None

-- the call that begins with this cpu: the pc is at a placed entry
abbrev pub call_begun : SymbolicProcess → List (List MapEntry) → Cpu → Option Call
call_begun p maps cpu = option_and_then (call_through p maps cpu) (entry_at p maps (pc_of cpu))
