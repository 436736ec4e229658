-- What holds at every moment of a run: what is loaded stands, and each thread has sixteen registers and calls of its own.
use Rattle.std.proofs.Common.{◌≡◌, ℕ, zero, suc, ◌≤◌, List, [], ◌∷◌, Option, Some, None, length, refl, sym, subst, ◌∙◌, arith, inl, inr, ◌⊎◌}
use Rattle.std.specs.Prelude.{All, IfSome, filter, map, not, set}
use Rattle.std.specs.Option.{option_to_list}
use Rattle.std.proofs.lemmas.List.Elements.{All-append, All-cons, All-filter, All-map, All-nil}
use Rattle.guest_mem.specs.parts.Kept.{Keeps}
use Rattle.guest_mem.specs.Memory.{GuestMemory}
use Rattle.a32_machine.specs.declared.cpu.Cpu.{Cpu}
use Rattle.load_laws.proofs.MemorySteps.{steps_keep_lem}
use Rattle.load_state.specs.Loaded.{Loaded}
use Rattle.run_model.specs.declared.event.Event.{Event}
use Rattle.run_model.specs.declared.thread.Call.{Call}
use Rattle.run_model.specs.declared.thread.Thread.{Thread}
use Rattle.run_model.specs.declared.thread.Turned.{Turned}
use Rattle.run_model.specs.Calls.{call_begun}
use Rattle.run_model.specs.State.{State, thread_at}
use Rattle.run_model.specs.Turns.{Taken, advanced, is_complete, turn_of, went, with_calls}
use Rattle.call_laws.proofs.CallWalks.{then_turns}
use Rattle.call_laws.specs.Schedules.{after, turns_from}
use Rattle.load_model.specs.Unbound.{AllBound}
use Rattle.run_laws.specs.Journal.{StandsAs}
use Rattle.run_laws.proofs.TurnCases.{GoesOn, IsStep, each_turn, without_it}

-- ---- lists and options

pub each_option : {X : Type 0} (P : X → Type 0) (o : Option X) → ((x : X) → o ≡ Some x → P x) → All P (option_to_list o)
each_option P None f = All-nil P
each_option P (Some x) f = All-cons P x [] (f x refl) (All-nil P)

-- a thread that lives after a place was set is the new one, or lived before
pub lives_after_set : (xs : List (Option Thread)) (t u : ℕ) (o : Option Thread) (thread : Thread) → thread_at (set xs t o) u ≡ Some thread
    → (o ≡ Some thread) ⊎ (thread_at xs u ≡ Some thread)
lives_after_set [] t u o thread e = inr e
lives_after_set (x ∷ xs) zero zero o thread e = inl e
lives_after_set (x ∷ xs) zero (suc u) o thread e = inr e
lives_after_set (x ∷ xs) (suc t) zero o thread e = inr e
lives_after_set (x ∷ xs) (suc t) (suc u) o thread e = lives_after_set xs t u o thread e

-- ---- a turn

module _ (l : Loaded) (limit : ℕ) where
  -- a call of which no step is done begins with this cpu
  abbrev pub IsOwn : Cpu → Call → Type 0
  IsOwn cpu call = call.done ≡ 0 → call_begun l.modules.process l.modules.maps cpu ≡ Some call

  pub record IsSettled (thread : Thread) : Type 0 where
    pub registers : length thread.cpu.r ≡ 16
    pub calls' : All (IsOwn thread.cpu) thread.calls

  pub record StandsAtMoment (s : State) : Type 0 where
    pub loaded' : StandsAs l s.loaded
    pub bound : AllBound s.loaded.modules.process
    pub within : s.steps ≤ limit
    pub threads' : (t : ℕ) (thread : Thread) → thread_at s.threads t ≡ Some thread → IsSettled thread

  module _ (s : State) (t : ℕ) (h : StandsAtMoment s) where
    stands : (memory : GuestMemory) → Keeps s.loaded.memory memory → StandsAs l (record s.loaded { memory = memory })
    stands memory keeps = record {
      consistent = steps_keep_lem s.loaded memory h.loaded'.consistent keeps;
      plan' = h.loaded'.plan';
      process' = h.loaded'.process';
      maps' = h.loaded'.maps';
    }

    -- calls that go on have a step done, and one that begins does so with the cpu after the step
    calls-own : (thread : Thread) → All (IsOwn thread.cpu) (with_calls s.loaded.modules.process s.loaded.modules.maps thread).calls
    calls-own thread =
        let P : Call → Type 0 = IsOwn thread.cpu in
        let moved : List Call = map advanced thread.calls in
        let begun : Option Call = call_begun s.loaded.modules.process s.loaded.modules.maps thread.cpu in
        let same : call_begun l.modules.process l.modules.maps thread.cpu ≡ begun = rw (h.loaded'.process', h.loaded'.maps') refl in
        All-append P (filter (λ call. not (is_complete call)) moved) (option_to_list begun)
        (All-filter (λ call. not (is_complete call)) P moved (All-map P advanced thread.calls (λ k d lt none. absurd (omega (arith, none)))))
        (each_option P begun (λ call is new. same ∙ is))

    threads-settled : (o : Option Thread) → ((thread : Thread) → o ≡ Some thread → IsSettled thread)
        → (u : ℕ) (thread : Thread) → thread_at (set s.threads t o) u ≡ Some thread → IsSettled thread
    threads-settled o new u thread at =
        elim (lives_after_set s.threads t u o thread at) as (λ _. IsSettled thread) [ inl is ↦ new thread is | inr was ↦ h.threads' u thread was ]

    went-stays : (was thread : Thread) (memory : GuestMemory) → IsStep limit s t was thread memory → (events : List Event) (answer : Turned) → GoesOn limit s t answer
        → IfSome (after (went s t (record s.loaded { memory = memory }) thread events answer)) StandsAtMoment
    went-stays was thread memory step events answer goes =
        let moved : Thread = with_calls s.loaded.modules.process s.loaded.modules.maps thread in
        let later : State = (went s t (record s.loaded { memory = memory }) thread events answer).state in
        let settled : IsSettled moved = record { registers = step.registers' ∙ (h.threads' t was step.at).registers; calls' = calls-own thread } in
        let stays : StandsAtMoment later =
        record {
          loaded' = stands memory step.keeps;
          bound = h.bound;
          within = omega (arith, step.early);
          threads' = threads-settled (Some moved) (λ other is. let same : moved ≡ other = cc in subst IsSettled same settled);
        } in
        subst (λ (o : Option State). IfSome o StandsAtMoment) (sym (goes later)) stays

    left-stays : (was thread : Thread) (memory : GuestMemory) → IsStep limit s t was thread memory → StandsAtMoment (without_it limit s t memory)
    left-stays was thread memory step =
        record { loaded' = stands memory step.keeps; bound = h.bound; within = omega (arith, step.early); threads' = threads-settled None (λ other is. absurd cc) }

    pub turn-stays : IfSome (after (turn_of limit s t)) StandsAtMoment
    turn-stays =
        each_turn limit s t (λ (taken : Taken). IfSome (after taken) StandsAtMoment)
        (record {
          absent = λ none. h;
          halts = λ why. tt;
          goes = λ was thread memory step out answer told goes. went-stays was thread memory step out answer goes;
          leaves = λ was thread memory step value some. left-stays was thread memory step;
          ends = λ was thread memory step value. tt;
          exits = λ was thread memory step value. tt;
        })

  -- ---- moments

  pub turns-stay : (turns : List ℕ) (s : State) → StandsAtMoment s → IfSome (turns_from limit turns s) StandsAtMoment
  turns-stay [] s h = h
  turns-stay (t ∷ ts) s h = then_turns StandsAtMoment StandsAtMoment (turns_from limit ts) (after (turn_of limit s t)) (turn-stays s t h) (turns-stay ts)
