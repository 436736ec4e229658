-- A call in progress has its line of arrival with the last of its steps.
use Rattle.std.proofs.Common.{◌≡◌, ◌≢◌, ℕ, zero, suc, ◌<◌, Bool, true, false, List, ◌++◌, Option, Some, None, refl, ap, sym, subst, ◌∙◌, arith, inl}
use Rattle.std.specs.Prelude.{IfSome, filter, map, nat_le, not, option_map, ◌==◌}
use Rattle.std.specs.List.{flat_map}
use Rattle.std.specs.Option.{option_to_list}
use Rattle.std.proofs.lemmas.List.{get_or-set_same}
use Rattle.std.proofs.lemmas.Option.{IfSome_then}
use Rattle.fd_base.proofs.Options.{one_value}
use Rattle.elf_model.specs.declared.func.Func.{Func}
use Rattle.a32_machine.specs.declared.cpu.Cpu.{Cpu}
use Rattle.a32_machine.specs.Registers.{pc_of}
use Rattle.a32_machine.specs.Step.{step_of}
use Rattle.a32_machine.specs.Stepped.{went_on}
use Rattle.run_model.specs.declared.event.Event.{Event}
use Rattle.run_model.specs.declared.event.Event.TheVariants.{Arrive}
use Rattle.run_model.specs.declared.thread.Call.{Call}
use Rattle.run_model.specs.declared.thread.Thread.{Thread}
use Rattle.placed_code.specs.Places.{code_at}
use Rattle.run_model.specs.Calls.{call_begun}
use Rattle.run_model.specs.State.{State, thread_at}
use Rattle.run_model.specs.Turns.{advanced, arrival, entering, is_complete, turn_of, with_calls}
use Rattle.call_laws.specs.Calls.{BoundCall, Begins, cpu_after, slot_of}
use Rattle.call_laws.specs.parts.TurnLaws.{IsTurnOf}
use Rattle.call_laws.specs.Schedules.{after}
use Rattle.call_laws.proofs.ListMembers.{Has, has_filter, has_flat_map, has_left, has_map}
use Rattle.call_laws.proofs.EntrySteps.{standing-pc}
use Rattle.call_laws.proofs.TurnStages.{turns_keep}
use Rattle.call_laws.proofs.CallWalks.{InCall, call_step, holds_kept, stopped_is, thread_inside, thread_of, went_is}

-- a call with so many steps done is among these
pub record IsMade (calls : List Call) (n : ℕ) : Type 0 where
  pub call : Call
  pub among : Has calls call
  pub length : call.length ≡ 4
  pub done : call.done ≡ n

complete_at : (call : Call) (n : ℕ) → call.length ≡ 4 → call.done ≡ n → is_complete (advanced call) ≡ (suc n == 4)
complete_at call n l d = rw (l, d) refl

not_yet : (n : ℕ) → suc n < 4 → not (suc n == 4) ≡ true
not_yet zero l = refl
not_yet (suc zero) l = refl
not_yet (suc (suc zero)) l = refl
not_yet (suc (suc (suc n))) l = absurd (omega arith)

-- one more step of the thread
made_next : (calls : List Call) (begun : Option Call) (n : ℕ) → suc n < 4 → IsMade calls n
    → IsMade (filter (λ call. not (is_complete call)) (map advanced calls) ++ option_to_list begun) (suc n)
made_next calls begun n l m = record {
  call = advanced m.call;
  among = has_left _ (option_to_list begun) (advanced m.call)
      (has_filter (λ call. not (is_complete call)) (map advanced calls) (advanced m.call) (ap not (complete_at m.call n m.length m.done) ∙ not_yet n l) (has_map advanced calls m.call m.among));
  length = m.length;
  done = ap suc m.done;
}

arrival_made : (calls : List Call) (begun : Option Call) (steps t : ℕ) (place : Option Func) (f : Func) → place ≡ Some f → IsMade calls 3
    → Has (flat_map (λ call. arrival steps t place) (filter is_complete (map advanced calls)) ++ map (entering steps t) (option_to_list begun)) (Arrive steps t f)
arrival_made calls begun steps t place f at m =
    has_left _ _ (Arrive steps t f)
    (has_flat_map (λ call. arrival steps t place) (filter is_complete (map advanced calls)) (advanced m.call) (Arrive steps t f)
    (has_filter is_complete (map advanced calls) (advanced m.call) (complete_at m.call 3 m.length m.done) (has_map advanced calls m.call m.among))
    (rw at (inl refl)))

module _ (limit t : ℕ) (begin : Cpu) (c : BoundCall) (f : Func) (begins : Begins begin c) where
  pub record Making (n : ℕ) (s : State) : Type 0 where
    pub at : InCall begin c t n s
    pub made : (thread : Thread) → thread_at s.threads t ≡ Some thread → IsMade thread.calls n
    pub place : code_at s.loaded.modules.process s.loaded.modules.maps c.function ≡ Some f

  abbrev HasArrival : List Event → Type 0
  HasArrival events = (step : ℕ) × Has events (Arrive step t f)

  -- ---- a turn of the calling thread

  pub next_by : (s : State) (n : ℕ) (b : Bool) → nat_le limit s.steps ≡ b → suc n < 4 → Making n s → IfSome (after (turn_of limit s t)) (Making (suc n))
  next_by s n true late l h =
      let live = thread_of (thread_at s.threads t) (cpu_after begin c n) h.at.cpu in
      rw (stopped_is limit s t live.thread live.at late) tt
  next_by s n false early l h =
      let live = thread_of (thread_at s.threads t) (cpu_after begin c n) h.at.cpu in
      let cpu : Cpu = cpu_after begin c (suc n) in
      let step : step_of live.thread.cpu s.loaded.memory ≡ went_on cpu s.loaded.memory =
      ap (λ x. step_of x s.loaded.memory) live.is ∙ call_step begin c s.loaded.memory n begins h.at.holds (omega arith) in
      let moved : Thread = record live.thread { cpu = cpu } in
      let there = get_or-set_same s.threads t (Some (with_calls s.loaded.modules.process s.loaded.modules.maps moved)) None (thread_inside s.threads t live.thread live.at) in
      let made : IsMade (with_calls s.loaded.modules.process s.loaded.modules.maps moved).calls (suc n) = made_next live.thread.calls (call_begun s.loaded.modules.process s.loaded.modules.maps cpu) n l (h.made live.thread live.at) in
      rw (went_is limit s t live.thread cpu live.at early step)
      (record {
        at = record { cpu = ap (option_map (λ (thread : Thread). thread.cpu)) there; holds = h.at.holds };
        made = λ thread at. subst (λ (x : Thread). IsMade x.calls (suc n)) (one_value _ (with_calls s.loaded.modules.process s.loaded.modules.maps moved) thread there at) made;
        place = h.place;
      })

  -- the line has the number of steps that are done then
  pub last_by : (s : State) (b : Bool) → nat_le limit s.steps ≡ b → Making 3 s
      → IfSome (after (turn_of limit s t)) (λ later. Has (turn_of limit s t).events (Arrive later.steps t f))
  last_by s true late h =
      let live = thread_of (thread_at s.threads t) (cpu_after begin c 3) h.at.cpu in
      rw (stopped_is limit s t live.thread live.at late) tt
  last_by s false early h =
      let live = thread_of (thread_at s.threads t) (cpu_after begin c 3) h.at.cpu in
      let cpu : Cpu = cpu_after begin c 4 in
      let step : step_of live.thread.cpu s.loaded.memory ≡ went_on cpu s.loaded.memory =
      ap (λ x. step_of x s.loaded.memory) live.is ∙ call_step begin c s.loaded.memory 3 begins h.at.holds (omega arith) in
      let at_function : pc_of cpu ≡ c.function = standing-pc begin s.loaded.memory begins.registers c.function (slot_of c) c.function_got in
      let place : code_at s.loaded.modules.process s.loaded.modules.maps (pc_of cpu) ≡ Some f = ap (code_at s.loaded.modules.process s.loaded.modules.maps) at_function ∙ h.place in
      rw (went_is limit s t live.thread cpu live.at early step)
      (arrival_made live.thread.calls (call_begun s.loaded.modules.process s.loaded.modules.maps cpu) (suc s.steps) t _ f place (h.made live.thread live.at))

  -- ---- a turn of another

  pub other_makes : (s : State) (u n : ℕ) → t ≢ u → Making n s → IfSome (after (turn_of limit s u)) (Making n)
  other_makes s u n ne h =
      IfSome_then (after (turn_of limit s u)) {P = IsTurnOf u s} {Q = Making n} (turns_keep limit s u)
      (λ later k. record {
        at = record {
          cpu = ap (option_map (λ (thread : Thread). thread.cpu)) (k.others t ne) ∙ h.at.cpu;
          holds = holds_kept s.loaded.memory later.loaded.memory c k.keeps h.at.holds;
        };
        made = λ thread at. h.made thread (sym (k.others t ne) ∙ at);
        place = rw (k.process, k.maps) h.place;
      })
