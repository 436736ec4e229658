-- A step depends on the cpu, the fetched word, the bytes that it loads, and the map and marks of memory.
use Rattle.std.proofs.Common.{inl, refl}
use Rattle.guest_mem.specs.Memory.{GuestMemory}
use Rattle.guest_mem.specs.parts.Kept.{ChangesAlike, SameMap}
use Rattle.guest_mem.proofs.Writing.{with_bytes-change}
use Rattle.a32_machine.specs.declared.cpu.Cpu.{Cpu}
use Rattle.a32_machine.specs.parts.Depends.{SameBytes, StepsAlike, next_fetch, next_loads}
use Rattle.a32_machine.specs.Step.{step_of}
use Rattle.a32_machine.proofs.Stages.{any_registers, both_steps}

pub step_of-alike : (start : Cpu) (m n : GuestMemory) → SameMap m n → SameBytes m n (next_fetch start) → SameBytes m n (next_loads start m) → StepsAlike m n (step_of start m) (step_of start n)
step_of-alike start m n same =
    let stays : ChangesAlike m n m n = record { map = same; bytes = λ a. inl (refl, refl) } in
    both_steps start m n same _ (StepsAlike m n) (any_registers start m) (record {
      stops = λ stop. record { end_ = refl; cpu = refl; memory = stays };
      goes_on = λ cpu g. record { end_ = refl; cpu = refl; memory = stays };
      stores = λ cpu width a new g l h. record { end_ = refl; cpu = refl; memory = with_bytes-change m n a new same };
      serves = λ cpu number g. record { end_ = refl; cpu = refl; memory = stays };
    })
