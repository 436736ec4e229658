-- What a turn keeps, whatever it is. One line for each stage.
use Rattle.std.proofs.Common.{◌≡◌, ◌≢◌, ℕ, Bool, true, false, cond, List, [], ◌∷◌, Option, Some, None, refl}
use Rattle.std.specs.Prelude.{IfSome, nat_le, set, suc}
use Rattle.std.proofs.lemmas.List.{get_or-set_other}
use Rattle.guest_mem.specs.Memory.{GuestMemory}
use Rattle.guest_mem.specs.parts.Kept.{Keeps}
use Rattle.guest_mem.proofs.Keeping.{Keeps-same}
use Rattle.a32_machine.specs.declared.cpu.Cpu.{Cpu}
use Rattle.a32_machine.specs.declared.cpu.StepEnd.{StepEnd}
use Rattle.a32_machine.specs.declared.cpu.StepEnd.TheVariants as end
use Rattle.a32_machine.specs.Step.{step_of}
use Rattle.a32_machine.proofs.Framing.{step_of-frames}
use Rattle.run_model.specs.declared.event.Event.{Event}
use Rattle.run_model.specs.declared.event.Event.TheVariants.{Out}
use Rattle.run_model.specs.declared.event.Stop.TheVariants as stop
use Rattle.run_model.specs.declared.service.Served.{Served}
use Rattle.run_model.specs.declared.service.Served.TheVariants as served
use Rattle.run_model.specs.declared.thread.Thread.{Thread}
use Rattle.run_model.specs.declared.thread.Turned.{Turned}
use Rattle.run_model.specs.declared.thread.Turned.TheVariants.{Next, Yield, ThreadDone, Ended, Stopped, StoreFault, SinkFault, Memory as Lacks}
use Rattle.run_model.specs.Instructions.{obeyed_as, obeyed_by}
use Rattle.run_model.specs.State.{State, some_lives, thread_at}
use Rattle.run_model.specs.Turns.{Taken, finished, gone_as, gone_by, stopped, turn_of, turned_at, went, with_calls}
use Rattle.call_laws.specs.Schedules.{after, going_on}
use Rattle.call_laws.specs.parts.TurnLaws.{IsTurnOf, TurnsKeep}

-- what holds of a state holds of the one from which the run goes on
pub going : (P : State → Type 0) (answer : Turned) (s : State) → P s → IfSome (going_on answer s) P
going P Next s h = h
going P Yield s h = h
going P ThreadDone s h = h
going P Ended s h = tt
going P (Stopped why) s h = tt
going P StoreFault s h = tt
going P SinkFault s h = tt
going P Lacks s h = tt

pub either : (P : State → Type 0) (b : Bool) (x y : Taken) → IfSome (after x) P → IfSome (after y) P → IfSome (after (cond b x y)) P
either P true x y h k = h
either P false x y h k = k

-- the memory after an instruction is that after its step
memory_of : (before : Cpu) (refusal : ℕ) (m : GuestMemory) (e : StepEnd) (cpu : Cpu) (memory : GuestMemory) → Keeps m memory → Keeps m (obeyed_as before refusal e cpu memory).memory
memory_of before refusal m end.Next cpu memory h = h
memory_of before refusal m (end.Service number) cpu memory h = h
memory_of before refusal m (end.Stop why) cpu memory h = h

module _ (s : State) (t : ℕ) where
  pub memory-keeps : (thread : Thread) → Keeps s.loaded.memory (obeyed_by thread.cpu thread.refusal s.loaded.memory).memory
  memory-keeps thread =
      let after_step = step_of thread.cpu s.loaded.memory in
      memory_of thread.cpu thread.refusal s.loaded.memory after_step.end_ after_step.cpu after_step.memory (step_of-frames thread.cpu s.loaded.memory).keeps

  same : IsTurnOf t s s
  same = record { plan = refl; process = refl; maps = refl; keeps = Keeps-same s.loaded.memory; others = λ u ne. refl }

  -- one thread is another one, or none
  changed : (o : Option Thread) (u : ℕ) → u ≢ t → thread_at (set s.threads t o) u ≡ thread_at s.threads u
  changed o u ne = get_or-set_other s.threads t u o None ne

  went-keeps : (memory : GuestMemory) (thread : Thread) (events : List Event) (answer : Turned) → Keeps s.loaded.memory memory
      → IfSome (after (went s t (record s.loaded { memory = memory }) thread events answer)) (IsTurnOf t s)
  went-keeps memory thread events answer keeps =
      going (IsTurnOf t s) answer (went s t (record s.loaded { memory = memory }) thread events answer).state
      (record { plan = refl; process = refl; maps = refl; keeps = keeps; others = changed (Some (with_calls s.loaded.modules.process s.loaded.modules.maps thread)) })

  finished-keeps : (memory : GuestMemory) (value : ℕ) → Keeps s.loaded.memory memory → IfSome (after (finished s t (record s.loaded { memory = memory }) value)) (IsTurnOf t s)
  finished-keeps memory value keeps =
      let left : IsTurnOf t s (record { loaded = record s.loaded { memory = memory }; threads = set s.threads t None; steps = suc s.steps }) =
      record { plan = refl; process = refl; maps = refl; keeps = keeps; others = changed None } in
      either (IsTurnOf t s) (some_lives (set s.threads t None)) _ _ left tt

  gone_as-keeps : (memory : GuestMemory) (thread : Thread) (d : Served) → Keeps s.loaded.memory memory → IfSome (after (gone_as s t (record s.loaded { memory = memory }) thread d)) (IsTurnOf t s)
  gone_as-keeps memory thread served.Went keeps = went-keeps memory thread [] Next keeps
  gone_as-keeps memory thread (served.Wrote bytes) keeps = went-keeps memory thread (Out (suc s.steps) t bytes ∷ []) Next keeps
  gone_as-keeps memory thread served.Yielded keeps = went-keeps memory thread [] Yield keeps
  gone_as-keeps memory thread (served.Finished value) keeps = finished-keeps memory value keeps
  gone_as-keeps memory thread (served.Exited value) keeps = tt
  gone_as-keeps memory thread (served.Stopped why) keeps = tt

  turned_at-keeps : (limit : ℕ) (o : Option Thread) → IfSome (after (turned_at limit s t o)) (IsTurnOf t s)
  turned_at-keeps limit None = same
  turned_at-keeps limit (Some thread) =
      let d = obeyed_by thread.cpu thread.refusal s.loaded.memory in
      either (IsTurnOf t s) (nat_le limit s.steps) (stopped s t stop.Limit) (gone_by s t thread d) tt
      (gone_as-keeps d.memory (record { cpu = d.cpu; refusal = d.refusal; calls = thread.calls }) d.served (memory-keeps thread))

pub turns_keep : TurnsKeep
unfolding turn_of
turns_keep limit s t = turned_at-keeps s t limit (thread_at s.threads t)
