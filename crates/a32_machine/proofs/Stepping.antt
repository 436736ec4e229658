-- What holds of whatever a step comes to.
use Rattle.std.proofs.Common.{◌≡◌, ◌%◌, ap, sym, subst, ◌∙◌}
use Rattle.guest_mem.specs.Memory.{GuestMemory, IsBytes}
use Rattle.guest_mem.specs.parts.Kept.{Keeps}
use Rattle.a32_machine.specs.declared.cpu.Cpu.{Cpu}
use Rattle.a32_machine.specs.declared.cpu.StepEnd.TheVariants.{Stop}
use Rattle.a32_machine.specs.declared.cpu.StepStop.{StepStop}
use Rattle.a32_machine.specs.parts.Fit.{IsCpu}
use Rattle.a32_machine.specs.Registers.{pc_of}
use Rattle.a32_machine.specs.Stepped.{Stepped}
use Rattle.a32_machine.specs.Step.{step_of}
use Rattle.a32_machine.proofs.Framing.{step_of-frames}
use Rattle.a32_machine.proofs.Fitting.{step_of-aligned}

pub keeps : (cpu : Cpu) (m : GuestMemory) (s : Stepped) → s ≡ step_of cpu m → Keeps m s.memory
keeps cpu m s e = subst (λ (after : GuestMemory). Keeps m after) (sym (ap (λ (x : Stepped). x.memory) e)) (step_of-frames cpu m).keeps

pub stops : (cpu : Cpu) (m : GuestMemory) (s : Stepped) → s ≡ step_of cpu m → (stop : StepStop) → s.end_ ≡ Stop stop → (s.cpu ≡ cpu) × (s.memory ≡ m)
stops cpu m s e stop h =
    let same = (step_of-frames cpu m).stops stop (sym (ap (λ (x : Stepped). x.end_) e) ∙ h) in
    (ap (λ (x : Stepped). x.cpu) e ∙ same.0, ap (λ (x : Stepped). x.memory) e ∙ same.1)

pub aligned : (cpu : Cpu) (m : GuestMemory) (s : Stepped) → s ≡ step_of cpu m → IsCpu cpu → IsBytes m → pc_of cpu % 4 ≡ 0 → pc_of s.cpu % 4 ≡ 0
aligned cpu m s e registers bytes a = ap (λ (x : Stepped). pc_of x.cpu % 4) e ∙ step_of-aligned cpu m registers bytes a
