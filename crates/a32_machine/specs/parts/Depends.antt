-- What a step depends on.
use Rattle.std.specs.Prelude.{◌≡◌, ℕ, ◌+◌, ◌*◌, ◌<◌, not, length, Option, Some, None, Result, Ok, Err, ◌==◌, if◌then◌else◌}
use Rattle.guest_mem.specs.Memory.{GuestMemory, byte_at}
use Rattle.guest_mem.specs.Accesses.{fetch_of}
use Rattle.guest_mem.specs.parts.Kept.{ChangesAlike}
use Rattle.guest_mem.specs.declared.kind.Access.{Access}
use Rattle.a32_isa.specs.Decoding.{decode_of}
use Rattle.a32_isa.specs.declared.instr.Instr.{Instr}
use Rattle.a32_isa.specs.declared.instr.Op.{Op}
use Rattle.a32_isa.specs.declared.instr.Op.TheVariants as op
use Rattle.a32_machine.specs.declared.cpu.Cpu.{Cpu}
use Rattle.a32_machine.specs.declared.transfer.Size.TheVariants.{Byte, Half, Word}
use Rattle.a32_machine.specs.Registers.{pc_of, reg}
use Rattle.a32_machine.specs.Condition.{holds}
use Rattle.a32_machine.specs.Stepped.{Stepped}
use Rattle.a32_machine.specs.Transfers.{width_of, moved_by, address_of, mem_offset, half_offset}
use Rattle.a32_machine.specs.Multiple.{registers_of, lowest_of}

-- bytes side by side
pub record Range : Type 0 where
  pub start : ℕ
  pub len : ℕ

abbrev pub no_bytes : Range
no_bytes = record { start = 0; len = 0 }

-- the bytes that an instruction loads whose condition holds
abbrev pub loads_of : Op → Cpu → Range
loads_of (op.Mem load byte p u w n d off) cpu =
    if load then record { start = address_of p (reg cpu n) (moved_by u (reg cpu n) (mem_offset cpu off)); len = width_of (if byte then Byte else Word) } else no_bytes
loads_of (op.Half kind p u w n d off) cpu =
    if not (kind == 0) then record { start = address_of p (reg cpu n) (moved_by u (reg cpu n) (half_offset cpu off)); len = width_of (if kind == 2 then Byte else Half) } else no_bytes
loads_of (op.Multi load p u w n list) cpu =
    if load then record { start = lowest_of p u (reg cpu n) (length (registers_of list)); len = 4 * length (registers_of list) } else no_bytes
loads_of _ cpu = no_bytes

abbrev pub loads_obeyed : Cpu → Option Instr → Range
loads_obeyed cpu None = no_bytes
loads_obeyed cpu (Some i) = if holds i.cond cpu then loads_of i.op cpu else no_bytes

abbrev pub loads_fetched : Cpu → Result ℕ Access → Range
loads_fetched cpu (Err e) = no_bytes
loads_fetched cpu (Ok word) = loads_obeyed cpu (decode_of word)

-- the bytes that the next step loads
abbrev pub next_loads : Cpu → GuestMemory → Range
next_loads cpu memory = loads_fetched cpu (fetch_of memory (pc_of cpu))

-- the bytes that it fetches
abbrev pub next_fetch : Cpu → Range
next_fetch cpu = record { start = pc_of cpu; len = 4 }

pub record SameBytes (m n : GuestMemory) (range : Range) : Type 0 where
  pub bytes : (i : ℕ) → i < range.len → byte_at n (range.start + i) ≡ byte_at m (range.start + i)

-- One step from two memories ends alike and leaves the same cpu, and each byte stays in both, or is the same in both.
pub record StepsAlike (m n : GuestMemory) (s t : Stepped) : Type 0 where
  pub end_ : t.end_ ≡ s.end_
  pub cpu : t.cpu ≡ s.cpu
  pub memory : ChangesAlike m n s.memory t.memory
