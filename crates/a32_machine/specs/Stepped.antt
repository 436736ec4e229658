-- What a step leaves, and how a result becomes it.
use Rattle.std.specs.Prelude.{ℕ, ◌%◌, ◌==◌, if◌then◌else◌}
use Rattle.guest_mem.specs.Memory.{GuestMemory}
use Rattle.guest_mem.specs.declared.kind.Access.{Access}
use Rattle.guest_mem.specs.declared.kind.Access.TheVariants as access
use Rattle.a32_machine.specs.declared.cpu.Cpu.{Cpu}
use Rattle.a32_machine.specs.declared.cpu.StepEnd.{StepEnd}
use Rattle.a32_machine.specs.declared.cpu.StepEnd.TheVariants.{Next, Stop}
use Rattle.a32_machine.specs.declared.cpu.StepStop.{StepStop}
use Rattle.a32_machine.specs.declared.cpu.StepStop.TheVariants.{Stray, Fault, Unaligned}
use Rattle.a32_machine.specs.Registers.{with_reg}

pub record Stepped : Type 0 where
  pub end_ : StepEnd
  pub cpu : Cpu
  pub memory : GuestMemory

abbrev pub went_on : Cpu → GuestMemory → Stepped
went_on cpu memory = record { end_ = Next; cpu = cpu; memory = memory }

-- an instruction that stops changes nothing
abbrev pub stopped : Cpu → GuestMemory → StepStop → Stepped
stopped cpu memory stop = record { end_ = Stop stop; cpu = cpu; memory = memory }

-- an access that is refused
abbrev pub stop_of : Access → StepStop
stop_of (access.Unaligned a) = Unaligned a
stop_of (access.Fault a) = Fault a
stop_of (access.Stray a) = Stray a

-- The last stage of an instruction with a result: the result goes to register d of a cpu that has moved on, and
-- where that is r15 it has to be the address of an instruction. `before` is the cpu as the instruction began.
abbrev pub landed : Cpu → Cpu → GuestMemory → ℕ → ℕ → Stepped
landed before cpu memory d v =
    if d == 15 then (if v % 4 == 0 then went_on (with_reg cpu 15 v) memory else stopped before memory (Unaligned v))
    else went_on (with_reg cpu d v) memory
