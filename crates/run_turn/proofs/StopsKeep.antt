-- An instruction that stops leaves all as it was.
use Rattle.std.proofs.Common.{◌≡◌, ℕ, Bool, true, false, cond, Option, Some, None, refl}
use Rattle.std.specs.Prelude.{◌==◌}
use Rattle.guest_mem.specs.Memory.{GuestMemory, is_mapped_as}
use Rattle.guest_mem.specs.Accesses.{first_outside}
use Rattle.a32_machine.specs.declared.cpu.Cpu.{Cpu}
use Rattle.a32_machine.specs.declared.cpu.StepEnd.{StepEnd}
use Rattle.a32_machine.specs.declared.cpu.StepEnd.TheVariants as end
use Rattle.a32_machine.specs.declared.cpu.StepStop.{StepStop}
use Rattle.a32_machine.specs.Step.{step_of}
use Rattle.a32_machine.proofs.Framing.{services_keep, step_of-frames}
use Rattle.run_model.specs.declared.event.Stop.{Stop}
use Rattle.run_model.specs.declared.event.Stop.TheVariants.{Service}
use Rattle.run_model.specs.declared.service.Served.{Served}
use Rattle.run_model.specs.declared.service.Served.TheVariants as served
use Rattle.run_model.specs.declared.service.TheConstants.{EXIT, OUT, DONE, TURN, LAST_ERROR, OUT_TOO_LONG}
use Rattle.run_model.specs.Instructions.{Obeyed, obeyed_as, obeyed_with}
use Rattle.run_model.specs.Services.{ServiceStep, answered, argument, left, put_out, refused, service_of, written}
use Rattle.run_turn.specs.parts.StopLaws.{StopsKeep}

-- where a service stops, the code of the last refused one stays
record LeavesAll (refusal : ℕ) (d : ServiceStep) : Type 0 where
  stays : (why : Stop) → d.served ≡ served.Stopped why → d.refusal ≡ refusal

module _ (cpu : Cpu) (refusal : ℕ) (m : GuestMemory) where
  either : (b : Bool) (x y : ServiceStep) → LeavesAll refusal x → LeavesAll refusal y → LeavesAll refusal (cond b x y)
  either true x y h k = h
  either false x y h k = k

  kept : (d : Served) (after : Cpu) → LeavesAll refusal (record { served = d; cpu = after; refusal = refusal })
  kept d after = record { stays = λ why e. refl }

  refused-stays : (code : ℕ) → LeavesAll refusal (refused cpu code)
  refused-stays code = record { stays = λ why e. cc }

  written-stays : (a len : ℕ) (o : Option ℕ) → LeavesAll refusal (written m cpu refusal a len o)
  written-stays a len None = kept _ _
  written-stays a len (Some unmapped) = kept _ _

  put_out-stays : (a len : ℕ) → LeavesAll refusal (put_out m cpu refusal a len)
  put_out-stays a len = either _ _ _ (refused-stays OUT_TOO_LONG) (written-stays a len (first_outside is_mapped_as m a len))

  service_of-stays : (number : ℕ) → LeavesAll refusal (service_of number cpu refusal m)
  unfolding service_of
  service_of-stays number =
      let unknown : ServiceStep = left (served.Stopped (Service number)) cpu refusal in
      let from_8 : ServiceStep = cond (number == LAST_ERROR) (answered served.Went cpu refusal refusal) unknown in
      let from_7 : ServiceStep = cond (number == TURN) (left served.Yielded cpu refusal) from_8 in
      let from_6 : ServiceStep = cond (number == DONE) (left (served.Finished (argument cpu 0)) cpu refusal) from_7 in
      let from_1 : ServiceStep = cond (number == OUT) (put_out m cpu refusal (argument cpu 0) (argument cpu 1)) from_6 in
      either (number == EXIT) (left (served.Exited (argument cpu 0)) cpu refusal) from_1 (kept _ _)
      (either (number == OUT) (put_out m cpu refusal (argument cpu 0) (argument cpu 1)) from_6 (put_out-stays _ _)
      (either (number == DONE) (left (served.Finished (argument cpu 0)) cpu refusal) from_7 (kept _ _)
      (either (number == TURN) (left served.Yielded cpu refusal) from_8 (kept _ _)
      (either (number == LAST_ERROR) (answered served.Went cpu refusal refusal) unknown (kept _ _) (kept _ _)))))

-- what a stop is to leave
abbrev IsLeft : Cpu → ℕ → GuestMemory → Obeyed → Type 0
IsLeft cpu refusal m d = (why : Stop) → d.served ≡ served.Stopped why → d ≡ record { served = served.Stopped why; cpu = cpu; refusal = refusal; memory = m }

same_left : (cpu : Cpu) (code refusal : ℕ) (memory m : GuestMemory) (d x : Served) → d ≡ x → code ≡ refusal → memory ≡ m
    → ◌≡◌ {A = Obeyed} (record { served = d; cpu = cpu; refusal = code; memory = memory }) (record { served = x; cpu = cpu; refusal = refusal; memory = m })
same_left cpu code refusal memory m d x e h k = rw (e, h, k) refl

with_service : (before : Cpu) (refusal : ℕ) (m memory : GuestMemory) (d : Served) (cpu : Cpu) (code : ℕ) → ((why : Stop) → d ≡ served.Stopped why → code ≡ refusal) → memory ≡ m
    → IsLeft before refusal m (obeyed_with before (record { served = d; cpu = cpu; refusal = code }) memory)
with_service before refusal m memory served.Went cpu code h k why e = cc
with_service before refusal m memory (served.Wrote bytes) cpu code h k why e = cc
with_service before refusal m memory served.Yielded cpu code h k why e = cc
with_service before refusal m memory (served.Finished value) cpu code h k why e = cc
with_service before refusal m memory (served.Exited value) cpu code h k why e = cc
with_service before refusal m memory (served.Stopped other) cpu code h k why e = same_left before code refusal memory m (served.Stopped other) (served.Stopped why) e (h why e) k

by_end : (before : Cpu) (refusal : ℕ) (m : GuestMemory) (e : StepEnd) (cpu : Cpu) (memory : GuestMemory) → ((n : ℕ) → e ≡ end.Service n → memory ≡ m) → ((stop : StepStop) → e ≡ end.Stop stop → memory ≡ m)
    → IsLeft before refusal m (obeyed_as before refusal e cpu memory)
by_end before refusal m end.Next cpu memory h k why e = cc
by_end before refusal m (end.Service n) cpu memory h k why e =
    let d = service_of n cpu refusal memory in
    with_service before refusal m memory d.served d.cpu d.refusal (service_of-stays cpu refusal memory n).stays (h n refl) why e
by_end before refusal m (end.Stop stop) cpu memory h k why e = same_left before refusal refusal memory m _ (served.Stopped why) e refl (k stop refl)

pub stops_keep : StopsKeep
stops_keep cpu refusal m why e =
    let after = step_of cpu m in
    by_end cpu refusal m after.end_ after.cpu after.memory (services_keep cpu m) (λ stop at. ((step_of-frames cpu m).stops stop at).1) why e
