-- Branches (Arm ARM, DDI 0406C, A4.3).
use Rattle.std.specs.Prelude.{ℕ, ◌*◌, Bool, if◌then◌else◌}
use Rattle.guest_mem.specs.Memory.{GuestMemory}
use Rattle.a32_machine.specs.declared.cpu.Cpu.{Cpu}
use Rattle.fd_base.specs.Sums.{plus}
use Rattle.a32_machine.specs.Bits.{sign_extended}
use Rattle.a32_machine.specs.Registers.{pc_of, reg, with_reg}
use Rattle.a32_machine.specs.Stepped.{Stepped, went_on, landed}

-- lr gets the address of the next instruction
abbrev pub linked : Bool → Cpu → Cpu
linked link cpu = if link then with_reg cpu 14 (plus (pc_of cpu) 4) else cpu

-- B and BL (A8.8.18, A8.8.25): the field is a signed number of words, from the instruction's address plus 8
abbrev pub branch_target : ℕ → ℕ → ℕ
branch_target pc imm24 = plus (plus pc 8) (sign_extended 26 32 (4 * imm24))

abbrev pub branched : Bool → ℕ → Cpu → GuestMemory → Stepped
branched link imm24 cpu memory = went_on (with_reg (linked link cpu) 15 (branch_target (pc_of cpu) imm24)) memory

-- BX and BLX to a register (A8.8.27, A8.8.26). What it holds is read first, and another instruction set isn't taken.
abbrev pub jumped : Bool → ℕ → Cpu → GuestMemory → Stepped
jumped link m cpu memory = landed cpu (linked link cpu) memory 15 (reg cpu m)
