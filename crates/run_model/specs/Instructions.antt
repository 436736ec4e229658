-- What one instruction of a thread comes to, with the service that it asks for.
use Rattle.std.specs.Prelude.{ℕ}
use Rattle.guest_mem.specs.Memory.{GuestMemory}
use Rattle.a32_machine.specs.declared.cpu.Cpu.{Cpu}
use Rattle.a32_machine.specs.declared.cpu.StepEnd.{StepEnd}
use Rattle.a32_machine.specs.declared.cpu.StepEnd.TheVariants as end
use Rattle.a32_machine.specs.declared.cpu.StepStop.{StepStop}
use Rattle.a32_machine.specs.declared.cpu.StepStop.TheVariants as step
use Rattle.a32_machine.specs.Step.{step_of}
use Rattle.a32_machine.specs.Stepped.{Stepped}
use Rattle.run_model.specs.declared.event.Stop.{Stop}
use Rattle.run_model.specs.declared.event.Stop.TheVariants as stop
use Rattle.run_model.specs.declared.service.Served.{Served}
use Rattle.run_model.specs.declared.service.Served.TheVariants as served
use Rattle.run_model.specs.Services.{ServiceStep, service_of}

-- what it comes to, and the cpu, the code of the last refused service and the memory after it
pub record Obeyed : Type 0 where
  pub served : Served
  pub cpu : Cpu
  pub refusal : ℕ
  pub memory : GuestMemory

abbrev pub stop_by : StepStop → Stop
stop_by (step.Stray addr) = stop.Stray addr
stop_by (step.Fault addr) = stop.Fault addr
stop_by (step.Undefined word) = stop.Undefined word
stop_by (step.Unaligned addr) = stop.Unaligned addr

-- a service that stops leaves the thread before its svc
abbrev pub cpu_by : Served → Cpu → Cpu → Cpu
cpu_by (served.Stopped why) before after = before
cpu_by _ before after = after

abbrev pub obeyed_with : Cpu → ServiceStep → GuestMemory → Obeyed
obeyed_with before d memory = record { served = d.served; cpu = cpu_by d.served before d.cpu; refusal = d.refusal; memory = memory }

-- the cpu before the instruction and after it; that of a service stands behind its svc
abbrev pub obeyed_as : Cpu → ℕ → StepEnd → Cpu → GuestMemory → Obeyed
obeyed_as before refusal end.Next cpu memory = record { served = served.Went; cpu = cpu; refusal = refusal; memory = memory }
obeyed_as before refusal (end.Service number) cpu memory = obeyed_with before (service_of number cpu refusal memory) memory
obeyed_as before refusal (end.Stop why) cpu memory = record { served = served.Stopped (stop_by why); cpu = before; refusal = refusal; memory = memory }

abbrev pub obeyed_after : Cpu → ℕ → Stepped → Obeyed
obeyed_after before refusal after = obeyed_as before refusal after.end_ after.cpu after.memory

abbrev pub obeyed_by : Cpu → ℕ → GuestMemory → Obeyed
obeyed_by cpu refusal memory = obeyed_after cpu refusal (step_of cpu memory)
