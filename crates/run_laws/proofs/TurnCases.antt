-- A turn by how it ends: what holds in each case holds of the turn.
use Rattle.std.proofs.Common.{◌≡◌, ℕ, suc, ◌<◌, Bool, true, false, cond, List, [], ◌∷◌, Option, Some, None, length, refl}
use Rattle.std.specs.Prelude.{All, nat_le, set}
use Rattle.std.proofs.lemmas.Bool.{leb-false}
use Rattle.std.proofs.lemmas.List.Elements.{All-cons, All-nil}
use Rattle.guest_mem.specs.Memory.{GuestMemory}
use Rattle.guest_mem.specs.parts.Kept.{Keeps}
use Rattle.load_state.specs.Loaded.{Loaded}
use Rattle.run_model.specs.declared.event.Event.{Event}
use Rattle.run_model.specs.declared.event.Event.TheVariants.{Done, End, Out}
use Rattle.run_model.specs.declared.event.Stop.{Stop}
use Rattle.run_model.specs.declared.event.Stop.TheVariants as stop
use Rattle.run_model.specs.declared.service.Served.{Served}
use Rattle.run_model.specs.declared.service.Served.TheVariants as served
use Rattle.run_model.specs.declared.thread.Thread.{Thread}
use Rattle.run_model.specs.declared.thread.Turned.{Turned}
use Rattle.run_model.specs.declared.thread.Turned.TheVariants.{Ended, Next, ThreadDone, Yield}
use Rattle.run_model.specs.Instructions.{Obeyed, obeyed_by}
use Rattle.run_model.specs.State.{State, some_lives, thread_at}
use Rattle.run_model.specs.Turns.{Taken, exited, gone_as, gone_by, stopped, turn_of, turned_at, went}
use Rattle.call_laws.proofs.TurnStages.{memory-keeps}
use Rattle.call_laws.specs.Schedules.{going_on}
use Rattle.run_laws.proofs.RegisterCounts.{obeyed-length}

module _ (limit : ℕ) (s : State) (t : ℕ) where
  -- an instruction of a thread is a step: the thread after it, and the memory
  pub record IsStep (was thread : Thread) (memory : GuestMemory) : Type 0 where
    pub at : thread_at s.threads t ≡ Some was
    pub early : s.steps < limit
    pub calls' : thread.calls ≡ was.calls
    pub registers' : length thread.cpu.r ≡ length was.cpu.r
    pub keeps : Keeps s.loaded.memory memory

  abbrev pub loaded_with : GuestMemory → Loaded
  loaded_with memory = record s.loaded { memory = memory }

  -- the thread lives no more
  abbrev pub without_it : GuestMemory → State
  without_it memory = record { loaded = loaded_with memory; threads = set s.threads t None; steps = suc s.steps }

  -- the run goes on by such an answer
  abbrev pub GoesOn : Turned → Type 0
  GoesOn answer = (later : State) → going_on answer later ≡ Some later

  -- what is put out
  abbrev pub IsOut : Event → Type 0
  IsOut e = (bytes : List ℕ) × (e ≡ Out (suc s.steps) t bytes)

  pub record Cases (P : Taken → Type 0) : Type 0 where
    pub absent : thread_at s.threads t ≡ None → P (record { answer = ThreadDone; state = s; events = [] })
    pub halts : (why : Stop) → P (stopped s t why)
    pub goes : (was thread : Thread) (memory : GuestMemory) → IsStep was thread memory → (out : List Event) (answer : Turned) → All IsOut out → GoesOn answer
        → P (went s t (loaded_with memory) thread out answer)
    pub leaves : (was thread : Thread) (memory : GuestMemory) → IsStep was thread memory → (value : ℕ) → some_lives (set s.threads t None) ≡ true
        → P (record { answer = ThreadDone; state = without_it memory; events = Done (suc s.steps) t value ∷ [] })
    pub ends : (was thread : Thread) (memory : GuestMemory) → IsStep was thread memory → (value : ℕ)
        → P (record { answer = Ended; state = without_it memory; events = Done (suc s.steps) t value ∷ End (suc s.steps) ∷ [] })
    pub exits : (was thread : Thread) (memory : GuestMemory) → IsStep was thread memory → (value : ℕ) → P (exited s t (loaded_with memory) value)

  module _ (P : Taken → Type 0) (cases : Cases P) where
    left-case : (was thread : Thread) (memory : GuestMemory) → IsStep was thread memory → (value : ℕ) (b : Bool) → some_lives (set s.threads t None) ≡ b
        → P (cond b (record { answer = ThreadDone; state = without_it memory; events = Done (suc s.steps) t value ∷ [] })
        (record { answer = Ended; state = without_it memory; events = Done (suc s.steps) t value ∷ End (suc s.steps) ∷ [] }))
    left-case was thread memory step value true some = cases.leaves was thread memory step value some
    left-case was thread memory step value false none = cases.ends was thread memory step value

    gone-case : (was thread : Thread) (memory : GuestMemory) → IsStep was thread memory → (d : Served) → P (gone_as s t (loaded_with memory) thread d)
    gone-case was thread memory step served.Went = cases.goes was thread memory step [] Next (All-nil IsOut) (λ later. refl)
    gone-case was thread memory step (served.Wrote bytes) =
        cases.goes was thread memory step (Out (suc s.steps) t bytes ∷ []) Next (All-cons IsOut (Out (suc s.steps) t bytes) [] (bytes, refl) (All-nil IsOut)) (λ later. refl)
    gone-case was thread memory step served.Yielded = cases.goes was thread memory step [] Yield (All-nil IsOut) (λ later. refl)
    gone-case was thread memory step (served.Finished value) = left-case was thread memory step value (some_lives (set s.threads t None)) refl
    gone-case was thread memory step (served.Exited value) = cases.exits was thread memory step value
    gone-case was thread memory step (served.Stopped why) = cases.halts why

    turned-case : (was : Thread) → thread_at s.threads t ≡ Some was → (b : Bool) → nat_le limit s.steps ≡ b
        → P (cond b (stopped s t stop.Limit) (gone_by s t was (obeyed_by was.cpu was.refusal s.loaded.memory)))
    turned-case was at true late = cases.halts stop.Limit
    turned-case was at false early =
        let d : Obeyed = obeyed_by was.cpu was.refusal s.loaded.memory in
        gone-case was (record { cpu = d.cpu; refusal = d.refusal; calls = was.calls }) d.memory
        (record {
          at = at;
          early = leb-false limit s.steps early;
          calls' = refl;
          registers' = obeyed-length was.cpu was.refusal s.loaded.memory;
          keeps = memory-keeps s t was;
        })
        d.served

    placed-case : (o : Option Thread) → thread_at s.threads t ≡ o → P (turned_at limit s t o)
    placed-case None at = cases.absent at
    placed-case (Some was) at = turned-case was at (nat_le limit s.steps) refl

    pub each_turn : P (turn_of limit s t)
    unfolding turn_of
    each_turn = placed-case (thread_at s.threads t) refl
