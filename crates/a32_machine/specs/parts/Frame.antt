-- What a step leaves alone.
use Rattle.std.specs.Prelude.{◌≡◌}
use Rattle.guest_mem.specs.Memory.{GuestMemory}
use Rattle.guest_mem.specs.parts.Kept.{Keeps}
use Rattle.a32_machine.specs.declared.cpu.Cpu.{Cpu}
use Rattle.a32_machine.specs.declared.cpu.StepEnd.TheVariants.{Stop}
use Rattle.a32_machine.specs.declared.cpu.StepStop.{StepStop}
use Rattle.a32_machine.specs.Stepped.{Stepped}

-- Whatever the instruction, watched bytes, bytes that aren't Data, kinds and marks stay; and if it stops, all stays.
pub record Frames (cpu : Cpu) (memory : GuestMemory) (s : Stepped) : Type 0 where
  pub keeps : Keeps memory s.memory
  pub stops : (stop : StepStop) → s.end_ ≡ Stop stop → (s.cpu ≡ cpu) × (s.memory ≡ memory)
