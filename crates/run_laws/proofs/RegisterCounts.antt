-- An instruction with its service leaves as many registers as there were.
use Rattle.std.proofs.Common.{◌≡◌, ℕ, Bool, true, false, cond, Option, Some, None, length, refl, ◌∙◌}
use Rattle.std.specs.Prelude.{nat_lt, ◌==◌}
use Rattle.std.proofs.lemmas.List.{length-set}
use Rattle.guest_mem.specs.Accesses.{first_outside}
use Rattle.guest_mem.specs.Memory.{GuestMemory, is_mapped_as}
use Rattle.a32_machine.specs.declared.cpu.Cpu.{Cpu}
use Rattle.a32_machine.specs.declared.cpu.StepEnd.{StepEnd}
use Rattle.a32_machine.specs.declared.cpu.StepEnd.TheVariants as end
use Rattle.a32_machine.specs.Step.{step_of}
use Rattle.a32_machine.proofs.Fitting.{step_of-length}
use Rattle.run_model.specs.declared.service.Served.{Served}
use Rattle.run_model.specs.declared.service.Served.TheVariants as served
use Rattle.run_model.specs.declared.service.TheConstants.{EXIT, OUT, DONE, TURN, LAST_ERROR, MAX_OUT, OUT_TOO_LONG, REFUSED}
use Rattle.run_model.specs.Instructions.{cpu_by, obeyed_as, obeyed_by}
use Rattle.run_model.specs.Services.{ServiceStep, argument, put_out, refused, service_of, written}

module _ (cpu : Cpu) (refusal : ℕ) (memory : GuestMemory) where
  service_either : (n : ℕ) (b : Bool) (x y : ServiceStep) → length x.cpu.r ≡ n → length y.cpu.r ≡ n → length (cond b x y).cpu.r ≡ n
  service_either n true x y h k = h
  service_either n false x y h k = k

  written-length : (a len : ℕ) (o : Option ℕ) → length (written memory cpu refusal a len o).cpu.r ≡ length cpu.r
  written-length a len None = length-set cpu.r 0 len
  written-length a len (Some unmapped) = refl

  put_out-length : (a len : ℕ) → length (put_out memory cpu refusal a len).cpu.r ≡ length cpu.r
  put_out-length a len =
      let n : ℕ = length cpu.r in
      let o : Option ℕ = first_outside is_mapped_as memory a len in
      service_either n (nat_lt MAX_OUT len) (refused cpu OUT_TOO_LONG) (written memory cpu refusal a len o) (length-set cpu.r 0 REFUSED) (written-length a len o)

  service-length : (number : ℕ) → length (service_of number cpu refusal memory).cpu.r ≡ length cpu.r
  unfolding service_of
  service-length number =
      let n : ℕ = length cpu.r in
      service_either n (number == EXIT) _ _ refl
      (service_either n (number == OUT) _ _ (put_out-length (argument cpu 0) (argument cpu 1))
      (service_either n (number == DONE) _ _ refl
      (service_either n (number == TURN) _ _ refl
      (service_either n (number == LAST_ERROR) _ _ (length-set cpu.r 0 refusal) refl))))

cpu_by-length : (x : Served) (before later : Cpu) → length later.r ≡ length before.r → length (cpu_by x before later).r ≡ length before.r
cpu_by-length served.Went before later h = h
cpu_by-length (served.Wrote bytes) before later h = h
cpu_by-length served.Yielded before later h = h
cpu_by-length (served.Finished value) before later h = h
cpu_by-length (served.Exited value) before later h = h
cpu_by-length (served.Stopped why) before later h = refl

obeyed_as-length : (before : Cpu) (refusal : ℕ) (e : StepEnd) (cpu : Cpu) (memory : GuestMemory) → length cpu.r ≡ length before.r
    → length (obeyed_as before refusal e cpu memory).cpu.r ≡ length before.r
obeyed_as-length before refusal end.Next cpu memory h = h
obeyed_as-length before refusal (end.Service number) cpu memory h =
    let d = service_of number cpu refusal memory in
    cpu_by-length d.served before d.cpu (service-length cpu refusal memory number ∙ h)
obeyed_as-length before refusal (end.Stop why) cpu memory h = refl

pub obeyed-length : (cpu : Cpu) (refusal : ℕ) (memory : GuestMemory) → length (obeyed_by cpu refusal memory).cpu.r ≡ length cpu.r
obeyed-length cpu refusal memory =
    let step = step_of cpu memory in
    obeyed_as-length cpu refusal step.end_ step.cpu step.memory (step_of-length cpu memory)
