-- Walks of quiet steps.
use Rattle.std.proofs.Common.{◌≡◌, ℕ, zero, suc, ◌+◌, ◌<◌, ◌≤◌, List, [], ◌∷◌, Option, Some, None, refl, ap, sym, subst, ◌∙◌, arith}
use Rattle.std.specs.Prelude.{min, set}
use Rattle.std.proofs.lemmas.List.{set-get_or}
use Rattle.guest_mem.specs.Memory.{GuestMemory}
use Rattle.a32_machine.specs.declared.cpu.Cpu.{Cpu}
use Rattle.a32_machine.specs.declared.cpu.StepEnd.{StepEnd}
use Rattle.a32_machine.specs.declared.cpu.StepEnd.TheVariants.{Next, Service, Stop}
use Rattle.a32_machine.specs.declared.cpu.StepStop.{StepStop}
use Rattle.a32_machine.specs.Registers.{moved_on, pc_of, with_reg}
use Rattle.a32_machine.specs.Step.{step_of}
use Rattle.a32_machine.specs.Stepped.{Stepped, went_on}
use Rattle.a32_machine.proofs.Framing.{services_keep}
use Rattle.load_map.specs.declared.entry.MapEntry.{MapEntry}
use Rattle.load_model.specs.declared.module.SymbolicProcess.{SymbolicProcess}
use Rattle.run_turn.specs.parts.QuietSteps.{GoQuietly, HasWalked, IsWithin, Machine, WalksOn, machine_of}
use Rattle.run_turn.proofs.ServiceSteps.{services_move_on}

set_twice : (xs : List ℕ) (k x y : ℕ) → set (set xs k x) k y ≡ set xs k y
set_twice [] k x y = refl
set_twice (z ∷ xs) zero x y = refl
set_twice (z ∷ xs) (suc k) x y = ap (λ ys. z ∷ ys) (set_twice xs k x y)

-- what moved the pc alone is as before once the pc is set back
set_back : (cpu : Cpu) → with_reg (moved_on cpu) 15 (pc_of cpu) ≡ cpu
set_back cpu = ap (λ (r : List ℕ). record cpu { r = r }) (set_twice cpu.r 15 _ (pc_of cpu) ∙ set-get_or cpu.r 15 0)

abbrev stepped : StepEnd → Cpu → GuestMemory → Stepped
stepped e cpu m = record { end_ = e; cpu = cpu; memory = m }

-- ---- how an instruction has ended

module _ (cpu after : Cpu) (m later : GuestMemory) (e : StepEnd) (step : stepped e after later ≡ step_of cpu m) where
  pub has_gone_on : e ≡ Next → WalksOn (Some Next) (machine_of cpu m) (machine_of after later)
  has_gone_on next = sym step ∙ ap (λ (x : StepEnd). stepped x after later) next

  pub has_asked : (number : ℕ) → e ≡ Service number → WalksOn (Some (Service number)) (machine_of cpu m) (machine_of (with_reg after 15 (pc_of cpu)) later)
  has_asked number asks =
      let is : (step_of cpu m).end_ ≡ Service number = ap (λ (s : Stepped). s.end_) (sym step) ∙ asks in
      let moved : after ≡ moved_on cpu = ap (λ (s : Stepped). s.cpu) step ∙ services_move_on cpu m number is in
      let kept : later ≡ m = ap (λ (s : Stepped). s.memory) step ∙ services_keep cpu m number is in (
        ap (λ (c : Cpu). machine_of (with_reg c 15 (pc_of cpu)) later) moved
            ∙ ap (λ (c : Cpu). machine_of c later) (set_back cpu)
            ∙ ap (λ (x : GuestMemory). machine_of cpu x) kept,
        sym step
            ∙ ap (λ (x : StepEnd). stepped x after later) asks
            ∙ ap (λ (c : Cpu). stepped (Service number) c later) moved
            ∙ ap (λ (x : GuestMemory). stepped (Service number) (moved_on cpu) x) kept,
      )

  pub has_stopped : (why : StepStop) → e ≡ Stop why → (after ≡ cpu) × (later ≡ m) → WalksOn (Some (Stop why)) (machine_of cpu m) (machine_of after later)
  has_stopped why stops same = (
    ap (λ (c : Cpu). machine_of c later) same.0 ∙ ap (λ (x : GuestMemory). machine_of cpu x) same.1,
    sym step
        ∙ ap (λ (x : StepEnd). stepped x after later) stops
        ∙ ap (λ (c : Cpu). stepped (Stop why) c later) same.0
        ∙ ap (λ (x : GuestMemory). stepped (Stop why) cpu x) same.1,
  )

-- ---- a walk that is cut

module _ (p : SymbolicProcess) (maps : List (List MapEntry)) (room most : ℕ) (below : room ≤ most) (old new : Machine) (n : ℕ) where
  within_all : (last : Option StepEnd) → IsWithin last (min (room + 1) most) n → n ≤ room → IsWithin last most n
  within_all None h le = omega arith
  within_all (Some e) h le = omega arith

  pub whole : (last : Option StepEnd) → HasWalked p maps (min (room + 1) most) old new (record { quiet = n; last = last }) → n ≤ room
      → HasWalked p maps most old new (record { quiet = n; last = last })
  whole last walked le = record { mid = walked.mid; quiet' = walked.quiet'; last' = walked.last'; within = within_all last walked.within le }

  last_of : (last : Option StepEnd) (mid : Machine) → GoQuietly p maps n old mid → WalksOn last mid new → IsWithin last (min (room + 1) most) n → room < n
      → HasWalked p maps most old new (record { quiet = room; last = Some Next })
  last_of None mid quiet on within more =
      let is : n ≡ suc room = omega arith in
      let steps : GoQuietly p maps (suc room) old mid = subst (λ (k : ℕ). GoQuietly p maps k old mid) is quiet in
      record {
        mid = steps.0;
        quiet' = steps.1;
        last' = subst (λ (x : Machine). step_of steps.0.cpu steps.0.memory ≡ went_on x.cpu x.memory) (sym on) steps.2.step;
        within = omega arith;
      }
  last_of (Some e) mid quiet on within more = absurd (omega arith)

  -- the first of the steps behind those that there is room for is the last
  pub cut_off : (last : Option StepEnd) → HasWalked p maps (min (room + 1) most) old new (record { quiet = n; last = last }) → room < n
      → HasWalked p maps most old new (record { quiet = room; last = Some Next })
  cut_off last walked more = last_of last walked.mid walked.quiet' walked.last' walked.within more
