-- What an instruction comes to by how it has ended.
use Rattle.std.proofs.Common.{◌≡◌, ℕ, Some, ap, sym, subst, ◌∙◌}
use Rattle.guest_mem.specs.Memory.{GuestMemory}
use Rattle.a32_machine.specs.declared.cpu.Cpu.{Cpu}
use Rattle.a32_machine.specs.declared.cpu.StepEnd.TheVariants as end
use Rattle.a32_machine.specs.declared.cpu.StepStop.{StepStop}
use Rattle.a32_machine.specs.Registers.{moved_on}
use Rattle.a32_machine.specs.Stepped.{Stepped}
use Rattle.run_model.specs.declared.service.Served.TheVariants as served
use Rattle.run_model.specs.Instructions.{Obeyed, obeyed_after, obeyed_by, obeyed_with, stop_by}
use Rattle.run_model.specs.Services.{service_of}
use Rattle.run_turn.specs.parts.QuietSteps.{Machine, WalksOn, machine_of}

abbrev is_by : Machine → ℕ → Stepped → Obeyed
is_by before code s = obeyed_after before.cpu code s

pub has_gone : (before : Machine) (cpu : Cpu) (code : ℕ) (m : GuestMemory) → WalksOn (Some end.Next) before (machine_of cpu m)
    → record { served = served.Went; cpu = cpu; refusal = code; memory = m } ≡ obeyed_by before.cpu code before.memory
has_gone before cpu code m walks = sym (ap (is_by before code) walks)

pub has_stopped : (before : Machine) (cpu : Cpu) (code : ℕ) (m : GuestMemory) (why : StepStop) → WalksOn (Some (end.Stop why)) before (machine_of cpu m)
    → record { served = served.Stopped (stop_by why); cpu = cpu; refusal = code; memory = m } ≡ obeyed_by before.cpu code before.memory
has_stopped before cpu code m why walks =
    ap (λ (x : Machine). record { served = served.Stopped (stop_by why); cpu = x.cpu; refusal = code; memory = x.memory }) walks.0
    ∙ sym (ap (is_by before code) walks.1)

-- behind the instruction its service is done
pub has_asked : (before : Machine) (cpu : Cpu) (code : ℕ) (m : GuestMemory) (number : ℕ) → WalksOn (Some (end.Service number)) before (machine_of cpu m)
    → obeyed_with cpu (service_of number (moved_on cpu) code m) m ≡ obeyed_by before.cpu code before.memory
has_asked before cpu code m number walks =
    ap (λ (x : Machine). obeyed_with x.cpu (service_of number (moved_on x.cpu) code x.memory) x.memory) walks.0
    ∙ sym (ap (is_by before code) walks.1)
