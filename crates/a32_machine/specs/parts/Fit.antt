-- Sixteen registers and the bytes of memory, within their widths.
use Rattle.std.specs.Prelude.{◌≡◌, ℕ, ◌<◌, ◌^◌, length, get_or}
use Rattle.guest_mem.specs.Memory.{IsBytes}
use Rattle.a32_machine.specs.declared.cpu.Cpu.{Cpu}
use Rattle.a32_machine.specs.Stepped.{Stepped}

pub record IsCpu (cpu : Cpu) : Type 0 where
  pub registers : length cpu.r ≡ 16
  pub fit : (i : ℕ) → get_or cpu.r i 0 < 2 ^ 32

pub record IsFit (s : Stepped) : Type 0 where
  pub cpu : IsCpu s.cpu
  pub bytes : IsBytes s.memory
