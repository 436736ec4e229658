-- One step: an instruction is fetched, decoded, and where its condition holds obeyed (Arm ARM, DDI 0406C, A1.3, A8).
-- The stages come in the order of the stops: the fetch, the word, the alignment of a transfer, its mapping, its
-- watched bytes, and the new r15.
use Rattle.std.specs.Prelude.{ℕ, ◌==◌, true, false, not, nat_le, Option, Some, None, Result, Ok, Err, if◌then◌else◌}
use Rattle.guest_mem.specs.Memory.{GuestMemory}
use Rattle.guest_mem.specs.Accesses.{fetch_of}
use Rattle.guest_mem.specs.declared.kind.Access.{Access}
use Rattle.a32_isa.specs.Decoding.{decode_of}
use Rattle.a32_isa.specs.declared.instr.Instr.{Instr}
use Rattle.a32_isa.specs.declared.instr.Op.{Op}
use Rattle.a32_isa.specs.declared.instr.Op.TheVariants as op
use Rattle.a32_machine.specs.declared.cpu.Cpu.{Cpu}
use Rattle.a32_machine.specs.declared.cpu.StepEnd.TheVariants.{Service}
use Rattle.a32_machine.specs.declared.cpu.StepStop.TheVariants.{Undefined}
use Rattle.a32_machine.specs.declared.transfer.Size.TheVariants.{Byte, Half, Word}
use Rattle.a32_machine.specs.Registers.{pc_of, reg, moved_on}
use Rattle.a32_machine.specs.Condition.{holds}
use Rattle.a32_machine.specs.Stepped.{Stepped, went_on, stopped, stop_of}
use Rattle.a32_machine.specs.DataProcessing.{data_processed, zeros_counted, wide_moved, top_moved}
use Rattle.a32_machine.specs.Multiplication.{multiplied, multiplied_and_added, multiplied_long}
use Rattle.a32_machine.specs.Transfers.{transferred, moved_by, mem_offset, half_offset}
use Rattle.a32_machine.specs.Multiple.{registers_of, transferred_all}
use Rattle.a32_machine.specs.Branches.{branched, jumped}

-- what an instruction does whose condition holds
unfoldable pub execute : Op → Cpu → GuestMemory → Stepped
execute (op.Data code s n d arg) cpu memory = data_processed code s n d arg cpu memory
execute (op.Mul s d s2 m) cpu memory = multiplied s d s2 m cpu memory
execute (op.Mla s d n s2 m) cpu memory = multiplied_and_added s d n s2 m cpu memory
execute (op.Long kind s hi lo s2 m) cpu memory = multiplied_long kind s hi lo s2 m cpu memory
execute (op.Clz d m) cpu memory = zeros_counted d m cpu memory
execute (op.Movw d imm16) cpu memory = wide_moved d imm16 cpu memory
execute (op.Movt d imm16) cpu memory = top_moved d imm16 cpu memory
execute op.Nop cpu memory = went_on (moved_on cpu) memory
execute (op.Mem load byte p u w n d off) cpu memory =
    transferred load false (if byte then Byte else Word) p w n d (moved_by u (reg cpu n) (mem_offset cpu off)) cpu memory
-- the kinds are 0 STRH, 1 LDRH, 2 LDRSB, 3 LDRSH
execute (op.Half kind p u w n d off) cpu memory =
    transferred (not (kind == 0)) (nat_le 2 kind) (if kind == 2 then Byte else Half) p w n d (moved_by u (reg cpu n) (half_offset cpu off)) cpu memory
execute (op.Multi load p u w n list) cpu memory = transferred_all load p u w n (registers_of list) cpu memory
execute (op.Branch link imm24) cpu memory = branched link imm24 cpu memory
execute (op.Bx m) cpu memory = jumped false m cpu memory
execute (op.Blx m) cpu memory = jumped true m cpu memory
execute (op.Svc imm24) cpu memory = record { end_ = Service imm24; cpu = moved_on cpu; memory = memory }

-- an instruction whose condition fails only passes
abbrev pub obeyed : Cpu → GuestMemory → ℕ → Option Instr → Stepped
obeyed cpu memory word None = stopped cpu memory (Undefined word)
obeyed cpu memory word (Some i) = if holds i.cond cpu then execute i.op cpu memory else went_on (moved_on cpu) memory

abbrev pub fetched : Cpu → GuestMemory → Result ℕ Access → Stepped
fetched cpu memory (Err e) = stopped cpu memory (stop_of e)
fetched cpu memory (Ok word) = obeyed cpu memory word (decode_of word)

unfoldable pub step_of : Cpu → GuestMemory → Stepped
step_of cpu memory = fetched cpu memory (fetch_of memory (pc_of cpu))
