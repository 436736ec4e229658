-- Registers as instructions read and write them (Arm ARM, DDI 0406C, A2.3).
use Rattle.std.specs.Prelude.{ℕ, get_or, set, ◌==◌, if◌then◌else◌}
use Rattle.a32_machine.specs.declared.cpu.Cpu.{Cpu}
use Rattle.fd_base.specs.Sums.{plus}

-- the address of the instruction
abbrev pub pc_of : Cpu → ℕ
pc_of cpu = get_or cpu.r 15 0

-- a register's value: of r15 that is the instruction's address plus 8
abbrev pub reg : Cpu → ℕ → ℕ
reg cpu n = if n == 15 then plus (pc_of cpu) 8 else get_or cpu.r n 0

abbrev pub with_reg : Cpu → ℕ → ℕ → Cpu
with_reg cpu n v = record cpu { r = set cpu.r n v }

-- on to the next instruction
abbrev pub moved_on : Cpu → Cpu
moved_on cpu = with_reg cpu 15 (plus (pc_of cpu) 4)
