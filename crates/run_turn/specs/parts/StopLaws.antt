-- What holds of instructions.
use Rattle.std.specs.Prelude.{◌≡◌, ℕ}
use Rattle.guest_mem.specs.Memory.{GuestMemory}
use Rattle.a32_machine.specs.declared.cpu.Cpu.{Cpu}
use Rattle.run_model.specs.declared.event.Stop.{Stop}
use Rattle.run_model.specs.declared.service.Served.TheVariants.{Stopped}
use Rattle.run_model.specs.Instructions.{obeyed_by}

-- where an instruction or its service stops, the thread and the memory are as before
abbrev pub StopsKeep : Type 0
StopsKeep = (cpu : Cpu) (refusal : ℕ) (m : GuestMemory) (why : Stop) → (obeyed_by cpu refusal m).served ≡ Stopped why
    → obeyed_by cpu refusal m ≡ record { served = Stopped why; cpu = cpu; refusal = refusal; memory = m }
