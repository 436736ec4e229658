-- The services that touch only their thread and the memory that it reads. Their numbers are this project's own. Arguments
-- are in r0 and r1, and the answer is in r0, as of functions (AAPCS32, "Parameter Passing" and "Result Return").
use Rattle.std.specs.Prelude.{ℕ, nat_lt, ◌==◌, List, take, drop, get_or, Option, Some, None, if◌then◌else◌}
use Rattle.guest_mem.specs.Memory.{GuestMemory, is_mapped_as}
use Rattle.guest_mem.specs.Accesses.{first_outside}
use Rattle.a32_machine.specs.declared.cpu.Cpu.{Cpu}
use Rattle.a32_machine.specs.Registers.{with_reg}
use Rattle.run_model.specs.declared.event.Stop.TheVariants.{Fault, Service}
use Rattle.run_model.specs.declared.service.Served.{Served}
use Rattle.run_model.specs.declared.service.Served.TheVariants.{Went, Wrote, Yielded, Finished, Exited, Stopped}
use Rattle.run_model.specs.declared.service.TheConstants.{EXIT, OUT, DONE, TURN, LAST_ERROR, MAX_OUT, OUT_TOO_LONG, REFUSED}

-- what a service comes to, the cpu after it, and the code of the last refused service
pub record ServiceStep : Type 0 where
  pub served : Served
  pub cpu : Cpu
  pub refusal : ℕ

-- the cpu stays
abbrev pub left : Served → Cpu → ℕ → ServiceStep
left served cpu refusal = record { served = served; cpu = cpu; refusal = refusal }

-- r0 gets an answer
abbrev pub answered : Served → Cpu → ℕ → ℕ → ServiceStep
answered served cpu refusal v = record { served = served; cpu = with_reg cpu 0 v; refusal = refusal }

abbrev pub refused : Cpu → ℕ → ServiceStep
refused cpu code = answered Went cpu code REFUSED

-- ---- bytes that are put out

-- the bytes from an address on
abbrev pub bytes_from : GuestMemory → ℕ → ℕ → List ℕ
bytes_from memory a len = take len (drop a memory.bytes)

-- unless one of them isn't mapped: the first one is told
abbrev pub written : GuestMemory → Cpu → ℕ → ℕ → ℕ → Option ℕ → ServiceStep
written memory cpu refusal a len None = answered (Wrote (bytes_from memory a len)) cpu refusal len
written memory cpu refusal a len (Some unmapped) = left (Stopped (Fault unmapped)) cpu refusal

-- that they are too many is tested before any byte is looked at
abbrev pub put_out : GuestMemory → Cpu → ℕ → ℕ → ℕ → ServiceStep
put_out memory cpu refusal a len =
    if nat_lt MAX_OUT len then refused cpu OUT_TOO_LONG
    else written memory cpu refusal a len (first_outside is_mapped_as memory a len)

-- ---- by number

abbrev pub argument : Cpu → ℕ → ℕ
argument cpu n = get_or cpu.r n 0

unfoldable pub service_of : ℕ → Cpu → ℕ → GuestMemory → ServiceStep
service_of number cpu refusal memory =
    if number == EXIT then left (Exited (argument cpu 0)) cpu refusal
    else if number == OUT then put_out memory cpu refusal (argument cpu 0) (argument cpu 1)
    else if number == DONE then left (Finished (argument cpu 0)) cpu refusal
    else if number == TURN then left Yielded cpu refusal
    else if number == LAST_ERROR then answered Went cpu refusal refusal
    else left (Stopped (Service number)) cpu refusal
