-- A step that asks for a service has moved the pc on, and done nothing else.
use Rattle.std.proofs.Common.{◌≡◌, ℕ, Bool, true, false, cond, List, Option, Some, None, Ok, Err, refl}
use Rattle.std.specs.Prelude.{Result, ◌==◌, ◌%◌}
use Rattle.guest_mem.specs.Memory.{GuestMemory}
use Rattle.guest_mem.specs.Accesses.{fetch_of}
use Rattle.guest_mem.specs.declared.kind.Access.{Access}
use Rattle.a32_isa.specs.Decoding.{decode_of}
use Rattle.a32_isa.specs.Registers.{is_comparison}
use Rattle.a32_isa.specs.declared.instr.Instr.{Instr}
use Rattle.a32_isa.specs.declared.instr.Op.{Op}
use Rattle.a32_isa.specs.declared.instr.Op.TheVariants as op
use Rattle.a32_machine.specs.declared.arithmetic.Outcome.{Outcome}
use Rattle.a32_machine.specs.declared.cpu.Cpu.{Cpu}
use Rattle.a32_machine.specs.declared.cpu.StepEnd.TheVariants.{Service}
use Rattle.a32_machine.specs.Branches.{linked}
use Rattle.a32_machine.specs.Condition.{holds}
use Rattle.a32_machine.specs.DataProcessing.{computed, data_processed, with_flags}
use Rattle.a32_machine.specs.Multiple.{loaded_all, transferred_all, with_regs}
use Rattle.a32_machine.specs.Multiplication.{multiplied, multiplied_and_added, multiplied_long}
use Rattle.a32_machine.specs.Registers.{moved_on, pc_of}
use Rattle.a32_machine.specs.Step.{execute, fetched, obeyed, step_of}
use Rattle.a32_machine.specs.Stepped.{Stepped, landed, went_on}
use Rattle.a32_machine.specs.Transfers.{loaded, stored, transferred}
use Rattle.a32_machine.specs.declared.transfer.Size.{Size}

-- what asks for a service has only moved on
record OnlyMoves (before : Cpu) (s : Stepped) : Type 0 where
  serves : (number : ℕ) → s.end_ ≡ Service number → s.cpu ≡ moved_on before

module _ (before : Cpu) where
  either : (b : Bool) (x y : Stepped) → OnlyMoves before x → OnlyMoves before y → OnlyMoves before (cond b x y)
  either true x y h k = h
  either false x y h k = k

  goes_on : (cpu : Cpu) (m : GuestMemory) → OnlyMoves before (went_on cpu m)
  goes_on cpu m = record { serves = λ number e. cc }

  landed-moves : (cpu : Cpu) (m : GuestMemory) (d v : ℕ) → OnlyMoves before (landed before cpu m d v)
  landed-moves cpu m d v = either (d == 15) _ _ (either (v % 4 == 0) _ _ (goes_on _ m) (record { serves = λ number e. cc })) (goes_on _ m)

  computed-moves : (code : ℕ) (s : Bool) (d : ℕ) (o : Outcome) (m : GuestMemory) → OnlyMoves before (computed code s d o before m)
  computed-moves code s d o m = either (is_comparison code) _ _ (goes_on _ m) (landed-moves (with_flags s o (moved_on before)) m d o.value)

  loaded-moves : (cpu : Cpu) (m : GuestMemory) (d : ℕ) (r : Result ℕ Access) → OnlyMoves before (loaded before cpu m d r)
  loaded-moves cpu m d (Err e) = record { serves = λ number e. cc }
  loaded-moves cpu m d (Ok v) = landed-moves cpu m d v

  stored-moves : (cpu : Cpu) (m : GuestMemory) (r : Result GuestMemory Access) → OnlyMoves before (stored before cpu m r)
  stored-moves cpu m (Err e) = record { serves = λ number e. cc }
  stored-moves cpu m (Ok changed) = goes_on cpu changed

  loaded_all-moves : (cpu : Cpu) (m : GuestMemory) (registers : List ℕ) (r : Result (List ℕ) Access) → OnlyMoves before (loaded_all before cpu m registers r)
  loaded_all-moves cpu m registers (Err e) = record { serves = λ number e. cc }
  loaded_all-moves cpu m registers (Ok values) =
      either (pc_of (record cpu { r = with_regs cpu.r registers values }) % 4 == 0) _ _ (goes_on (record cpu { r = with_regs cpu.r registers values }) m) (record { serves = λ number e. cc })

  transferred-moves : (load signed : Bool) (size : Size) (p w : Bool) (n d moved : ℕ) (m : GuestMemory) → OnlyMoves before (transferred load signed size p w n d moved before m)
  unfolding transferred
  transferred-moves load signed size p w n d moved m = either load _ _ (loaded-moves _ m d _) (stored-moves _ m _)

  transferred_all-moves : (load p u w : Bool) (n : ℕ) (registers : List ℕ) (m : GuestMemory) → OnlyMoves before (transferred_all load p u w n registers before m)
  unfolding transferred_all
  transferred_all-moves load p u w n registers m = either load _ _ (loaded_all-moves _ m registers _) (stored-moves _ m _)

  execute-moves : (o : Op) (m : GuestMemory) → OnlyMoves before (execute o before m)
  unfolding execute data_processed multiplied multiplied_and_added multiplied_long
  execute-moves (op.Data code s n d arg) m = computed-moves code s d _ m
  execute-moves (op.Mul s d s2 k) m = goes_on _ m
  execute-moves (op.Mla s d n s2 k) m = goes_on _ m
  execute-moves (op.Long kind s hi lo s2 k) m = goes_on _ m
  execute-moves (op.Clz d k) m = goes_on _ m
  execute-moves (op.Movw d imm16) m = goes_on _ m
  execute-moves (op.Movt d imm16) m = goes_on _ m
  execute-moves op.Nop m = goes_on _ m
  execute-moves (op.Mem load byte p u w n d off) m = transferred-moves load false _ p w n d _ m
  execute-moves (op.Half kind p u w n d off) m = transferred-moves _ _ _ p w n d _ m
  execute-moves (op.Multi load p u w n list) m = transferred_all-moves load p u w n _ m
  execute-moves (op.Branch link imm24) m = goes_on _ m
  execute-moves (op.Bx k) m = landed-moves (linked false before) m 15 _
  execute-moves (op.Blx k) m = landed-moves (linked true before) m 15 _
  execute-moves (op.Svc imm24) m = record { serves = λ number e. refl }

  obeyed-moves : (m : GuestMemory) (word : ℕ) (o : Option Instr) → OnlyMoves before (obeyed before m word o)
  obeyed-moves m word None = record { serves = λ number e. cc }
  obeyed-moves m word (Some i) = either (holds i.cond before) _ _ (execute-moves i.op m) (goes_on _ m)

  fetched-moves : (m : GuestMemory) (r : Result ℕ Access) → OnlyMoves before (fetched before m r)
  fetched-moves m (Err e) = record { serves = λ number e. cc }
  fetched-moves m (Ok word) = obeyed-moves m word (decode_of word)

pub services_move_on : (cpu : Cpu) (m : GuestMemory) (number : ℕ) → (step_of cpu m).end_ ≡ Service number → (step_of cpu m).cpu ≡ moved_on cpu
unfolding step_of
services_move_on cpu m number e = (fetched-moves cpu m (fetch_of m (pc_of cpu))).serves number e
