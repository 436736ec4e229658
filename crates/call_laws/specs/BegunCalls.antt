-- The calls that begin in a run over a consistent loader.
use Rattle.std.specs.Prelude.{◌≡◌, ◌^◌, ◌<◌, Some, length}
use Rattle.elf_model.specs.declared.func.Func.{Func}
use Rattle.elf_model.specs.declared.object.Object.{Object}
use Rattle.a32_machine.specs.declared.cpu.Cpu.{Cpu}
use Rattle.a32_machine.specs.Registers.{pc_of}
use Rattle.load_model.specs.declared.words.SlotPair.{SlotPair}
use Rattle.load_model.specs.Process.{object_at}
use Rattle.load_state.specs.Consistent.{IsConsistent}
use Rattle.load_state.specs.Loaded.{Loaded}
use Rattle.load_state.specs.Slots.{slot_pair_of}
use Rattle.plt_code.specs.Entries.{IsClear}
use Rattle.run_model.specs.declared.thread.Call.{Call}
use Rattle.run_model.specs.declared.thread.TheConstants.{BOUND_CALL}
use Rattle.placed_code.specs.Places.{code_at, got_word}
use Rattle.run_model.specs.Calls.{call_begun}
use Rattle.call_laws.specs.Calls.{Begins, Holds, bound_call, slot_of}

-- nothing that loading fills meets the entry at which the pc is
abbrev pub IsAtClearEntry : Loaded → Cpu → Call → Type 0
IsAtClearEntry l cpu call =
    (f : Func) (o : Object) → code_at l.modules.process l.modules.maps (pc_of cpu) ≡ Some f → object_at l.modules.process f.module ≡ Some o → IsClear o f.value call.slot

-- the slot of a call, and what the call rests on
pub record IsHeldCall (l : Loaded) (cpu : Cpu) (call : Call) : Type 0 where
  pub pair : SlotPair
  pub listed : slot_pair_of l.modules.process l.modules.maps call.number call.slot ≡ Some pair
  pub is_bound : call.length ≡ BOUND_CALL
  pub is_new : call.done ≡ 0
  pub begins : Begins cpu (bound_call (pc_of cpu) (got_word l.modules.process l.modules.maps call.number) pair)
  pub holds : Holds l.memory (bound_call (pc_of cpu) (got_word l.modules.process l.modules.maps call.number) pair)
  -- the entry leads to the slot
  pub leads : slot_of (bound_call (pc_of cpu) (got_word l.modules.process l.modules.maps call.number) pair) ≡ pair.addr

abbrev pub BegunCallsHold : Type 0
BegunCallsHold =
    (l : Loaded) (cpu : Cpu) (call : Call) → IsConsistent l → l.modules.plan.memory < 2 ^ 32 → length cpu.r ≡ 16
    → call_begun l.modules.process l.modules.maps cpu ≡ Some call → IsAtClearEntry l cpu call → IsHeldCall l cpu call
