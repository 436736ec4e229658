-- What a step leaves of the memory, whatever the instruction.
use Rattle.std.proofs.Common.{◌≡◌, ℕ, refl}
use Rattle.guest_mem.specs.Memory.{GuestMemory}
use Rattle.guest_mem.specs.Accesses.{with_bytes}
use Rattle.guest_mem.proofs.Keeping.{Keeps-same}
use Rattle.guest_mem.proofs.Writing.{write_of-keeps}
use Rattle.a32_machine.specs.declared.cpu.Cpu.{Cpu}
use Rattle.a32_machine.specs.declared.cpu.StepEnd.TheVariants.{Service}
use Rattle.a32_machine.specs.parts.Frame.{Frames}
use Rattle.a32_machine.specs.Step.{step_of}
use Rattle.a32_machine.proofs.Stages.{any_registers, each_step}

pub step_of-frames : (start : Cpu) (m : GuestMemory) → Frames start m (step_of start m)
step_of-frames start m = each_step start m _ (λ s. Frames start m s) (any_registers start m) (record {
  stops = λ stop. record { keeps = Keeps-same m; stops = λ _ _. (refl, refl) };
  goes_on = λ cpu g. record { keeps = Keeps-same m; stops = λ stop e. cc };
  stores = λ cpu width a new g l h. record { keeps = write_of-keeps width m a new (with_bytes m a new) h; stops = λ stop e. cc };
  serves = λ cpu number g. record { keeps = Keeps-same m; stops = λ stop e. cc };
})

-- a step that asks for a service leaves the memory
pub services_keep : (cpu : Cpu) (m : GuestMemory) (n : ℕ) → (step_of cpu m).end_ ≡ Service n → (step_of cpu m).memory ≡ m
services_keep start m n = each_step start m _ (λ s. s.end_ ≡ Service n → s.memory ≡ m) (any_registers start m) (record {
  stops = λ stop e. refl;
  goes_on = λ cpu g e. refl;
  stores = λ cpu width a new g l h e. cc;
  serves = λ cpu number g e. refl;
})
