-- A call through a slot that leads to no function goes to address 0, where nothing is mapped.
use Rattle.std.proofs.Common.{◌≡◌, ℕ, suc, ◌+◌, ◌^◌, ◌<◌, ◌≤◌, false, cond, List, [], ◌∷◌, Option, Some, None, Err, refl, ap, sym, subst, ◌∙◌, append-nil, arith}
use Rattle.std.specs.Prelude.{filter, map, nat_le}
use Rattle.std.specs.FinMap.{empty}
use Rattle.std.specs.List.{flat_map}
use Rattle.std.specs.Option.{option_map_or}
use Rattle.std.proofs.lemmas.Bool.{lt-leb}
use Rattle.elf_model.specs.declared.func.Func.{Func}
use Rattle.elf_model.specs.declared.object.Segment.{Segment}
use Rattle.a32_machine.specs.declared.cpu.Cpu.{Cpu}
use Rattle.a32_machine.specs.declared.cpu.StepStop.TheVariants as step_stop
use Rattle.a32_machine.specs.Registers.{pc_of}
use Rattle.a32_machine.specs.Step.{fetched, step_of}
use Rattle.a32_machine.specs.Stepped.{stopped as stepped_stop, went_on}
use Rattle.fd_base.proofs.Lists.{zip_at}
use Rattle.fd_base.specs.Ranges.{is_in}
use Rattle.guest_mem.specs.declared.kind.Access.TheVariants as access
use Rattle.guest_mem.specs.Accesses.{fetch_of, read_refusal}
use Rattle.guest_mem.specs.Memory.{GuestMemory, kind_at}
use Rattle.load_model.proofs.PlanParts.{low_above}
use Rattle.load_map.specs.declared.entry.MapEntry.{MapEntry}
use Rattle.load_map.specs.Maps.{map_at}
use Rattle.load_model.specs.declared.words.SlotPair.{SlotPair}
use Rattle.load_model.specs.Image.{place_of}
use Rattle.load_model.specs.Unbound.{is_unbound, stub_of, unbound_of}
use Rattle.elf_model.specs.Filled.{slot_site}
use Rattle.load_model.specs.Layout.{LiesAt, fixed_kind}
use Rattle.load_model.specs.Linkage.{linkage_of}
use Rattle.load_model.specs.Plan.{high_of, low_of, slots_end}
use Rattle.load_state.specs.Consistent.{IsConsistent, IsEntryOf}
use Rattle.load_state.specs.Loaded.{Loaded, in_memory, placing_of}
use Rattle.load_state.specs.Slots.{slot_function, slot_pair_at, slot_pair_of}
use Rattle.run_model.specs.declared.event.Stop.TheVariants as stop
use Rattle.run_model.specs.declared.thread.Call.{Call}
use Rattle.run_model.specs.declared.thread.Thread.{Thread}
use Rattle.run_model.specs.Instructions.{obeyed_after, obeyed_by}
use Rattle.placed_code.specs.Places.{code_at}
use Rattle.run_model.specs.State.{State}
use Rattle.run_model.specs.Turns.{Taken, advanced, arrival, call_events, gone_by, is_complete, stopped, turn_of, turned_at}
use Rattle.run_model.specs.State.{thread_at}
use Rattle.load_model.specs.declared.module.SymbolicProcess.{SymbolicProcess}
use Rattle.call_laws.proofs.CallWalks.{InCall, call_step, thread_of, went_is}
use Rattle.call_laws.proofs.ClearEntries.{slot_listed}
use Rattle.call_laws.proofs.EntrySteps.{standing-pc}
use Rattle.call_laws.proofs.SlotCode.{slots_lead_to_placed_code_lem}
use Rattle.call_laws.specs.BegunCalls.{IsAtClearEntry, IsHeldCall}
use Rattle.call_laws.specs.Calls.{BoundCall, cpu_after, slot_of as slot_address}
use Rattle.call_laws.specs.Schedules.{own_turns, turns_from}
use Rattle.run_laws.specs.Arrivals.{LeadsNowhere}
use Rattle.run_laws.specs.Journal.{EnteredCallsFault}
use Rattle.run_laws.specs.Moments.{Enters}
use Rattle.run_laws.proofs.CallArrivals.{at_mid, c, held, registers, stay}
use Rattle.run_laws.proofs.Moments.{StandsAtMoment, turns-stay}

-- ---- nothing is mapped at address 0

above_zero : (a b : ℕ) → 0 < a → a ≤ b → 0 < b
above_zero a b pos le = omega arith

module _ (l : Loaded) (h : IsConsistent l) where
  low_positive : 0 < low_of l.modules.plan
  low_positive = let above : slots_end l.modules.plan ≤ low_of l.modules.plan = low_above l.modules.plan in omega arith

  nothing_fixed : fixed_kind l.modules.plan 0 ≡ None
  nothing_fixed =
      let behind : nat_le (high_of l.modules.plan) 0 ≡ false = lt-leb (high_of l.modules.plan) 0 (above_zero (low_of l.modules.plan) (high_of l.modules.plan) low_positive h.fits.modules) in
      rw behind refl

  no_segment : (m : ℕ) (s : Segment) (e : MapEntry) → LiesAt (in_memory l.modules.process l.modules.maps) m s e → is_in e.addr e.memsz 0 ≡ false
  no_segment m s e at =
      let found = zip_at (IsEntryOf l.modules.plan) (at.object').segments (map_at l.modules.maps m) at.k s (h.modules'.standing m at.object' at.live).mapped at.segment in
      let both : Some found.0 ≡ Some e = sym found.1 ∙ at.entry in
      let same : found.0 ≡ e = cc in
      let entry : IsEntryOf l.modules.plan s e = subst (IsEntryOf l.modules.plan s) same found.2 in
      let behind : nat_le e.addr 0 ≡ false = lt-leb e.addr 0 (above_zero (low_of l.modules.plan) e.addr low_positive entry.above) in
      rw behind refl

  unmapped : kind_at l.memory 0 ≡ None
  unmapped = h.laid_out.rest 0 nothing_fixed no_segment

fetch_fails : (m : GuestMemory) → kind_at m 0 ≡ None → fetch_of m 0 ≡ Err (access.Fault 0)
unfolding fetch_of read_refusal
fetch_fails m none = rw none refl

step_fails : (cpu : Cpu) (m : GuestMemory) → pc_of cpu ≡ 0 → kind_at m 0 ≡ None → step_of cpu m ≡ stepped_stop cpu m (step_stop.Fault 0)
unfolding step_of
step_fails cpu m at none = ap (fetched cpu m) (ap (fetch_of m) at ∙ fetch_fails m none)

-- ---- turns

none_arrive : (steps t : ℕ) (calls : List Call) → flat_map (λ call. arrival steps t None) calls ≡ []
none_arrive steps t [] = refl
none_arrive steps t (call ∷ calls) = none_arrive steps t calls

-- where no code is at the pc, no line tells an arrival or a call that begins
no_lines : (p : SymbolicProcess) (maps : List (List MapEntry)) (steps t : ℕ) (thread : Thread) → code_at p maps (pc_of thread.cpu) ≡ None → call_events p maps steps t thread ≡ []
no_lines p maps steps t thread none =
    let done : List Call = filter is_complete (map advanced thread.calls) in
    rw none (append-nil (flat_map (λ call. arrival steps t None) done) ∙ none_arrive steps t done)

stops_there : (limit : ℕ) (s : State) (t : ℕ) (thread : Thread) → thread_at s.threads t ≡ Some thread → nat_le limit s.steps ≡ false
    → step_of thread.cpu s.loaded.memory ≡ stepped_stop thread.cpu s.loaded.memory (step_stop.Fault 0) → turn_of limit s t ≡ stopped s t (stop.Fault 0)
unfolding turn_of
stops_there limit s t thread at early step =
    ap (turned_at limit s t) at ∙ ap (λ b. cond b (stopped s t stop.Limit) (gone_by s t thread (obeyed_by thread.cpu thread.refusal s.loaded.memory))) early
    ∙ ap (λ after. gone_by s t thread (obeyed_after thread.cpu thread.refusal after)) step

-- ---- the pair

-- it holds zeros, and no code is at address 0
record IsZeroPair (l : Loaded) (pair : SlotPair) : Type 0 where
  zero' : pair.code ≡ 0
  no_code : code_at l.modules.process l.modules.maps pair.code ≡ None

pair_nowhere : (l : Loaded) (m k : ℕ) (pair : SlotPair) → IsConsistent l → is_unbound l.modules.process m k ≡ false → LeadsNowhere l m k → slot_pair_of l.modules.process l.modules.maps m k ≡ Some pair → IsZeroPair l pair
pair_nowhere l m k pair consistent bound leads listed =
    let p = placing_of l.modules.process l.modules.maps empty in
    let at : SlotPair = slot_pair_at (linkage_of l.modules.process) p m leads.object' (unbound_of l.modules.process m) (slot_site k leads.rel) in
    let function = slot_function (linkage_of l.modules.process) m leads.object' leads.rel in
    let stub : Option Func = Some (stub_of m leads.object' leads.rel) in
    let both : Some pair ≡ Some at = sym listed ∙ slot_listed l m k leads.object' leads.rel leads.live leads.is_slot in
    let same : pair ≡ at = cc in
    record {
      zero' =
          ap (λ (s : SlotPair). s.code) same
          ∙ ap (λ b. option_map_or (place_of p) (cond b stub function) 0) bound
          ∙ ap (λ (x : Option Func). option_map_or (place_of p) x 0) leads.nowhere;
      no_code = slots_lead_to_placed_code_lem.nothing l m k leads.object' leads.rel pair consistent (record { live = leads.live; is_slot = leads.is_slot; bound = bound; pair = listed }) leads.nowhere;
    }

-- ---- a moment at which such a call begins

module _ (l : Loaded) (small : l.modules.plan.memory < 2 ^ 32) (limit : ℕ) (s : State) (stays : StandsAtMoment l limit s) (t : ℕ) (thread : Thread) (call : Call) (enters : Enters s t thread call)
    (clear : IsAtClearEntry s.loaded thread.cpu call) (leads : LeadsNowhere s.loaded call.number call.slot) where
  abbrev its : IsHeldCall s.loaded thread.cpu call
  its = held l small limit s stays t thread call enters clear

  abbrev bound : BoundCall
  bound = c l small limit s stays t thread call enters clear

  zeros : IsZeroPair s.loaded its.pair
  zeros = pair_nowhere s.loaded call.number call.slot its.pair stays.loaded'.consistent (stays.bound call.number call.slot) leads its.listed

  -- the pc after the fourth step
  at_end : (m : GuestMemory) → pc_of (cpu_after thread.cpu bound 4) ≡ bound.function
  at_end m = standing-pc thread.cpu m (registers l small limit s stays t thread call enters clear) bound.function (slot_address bound) bound.function_got

  module _ (before : List ℕ) (mid : State) (there : turns_from limit before s ≡ Some mid) (early : mid.steps < limit) where
    stands : StandsAtMoment l limit mid
    stands = rw there at (turns-stay l limit before s stays)

    after_steps : (n : ℕ) → own_turns t before ≡ n → n ≤ 4 → InCall thread.cpu bound t n mid
    after_steps n own few =
        let start : 0 + own_turns t before ≡ n = omega (arith, own) in
        subst (λ (k : ℕ). InCall thread.cpu bound t k mid) start (at_mid l small limit s stays t thread call enters clear before mid (omega (arith, own, few)) there)

    silent : own_turns t before ≡ 3 → (turn_of limit mid t).events ≡ []
    silent three =
        let at : InCall thread.cpu bound t 3 mid = after_steps 3 three (omega arith) in
        let live = thread_of (thread_at mid.threads t) (cpu_after thread.cpu bound 3) at.cpu in
        let cpu : Cpu = cpu_after thread.cpu bound 4 in
        let step : step_of live.thread.cpu mid.loaded.memory ≡ went_on cpu mid.loaded.memory =
        ap (λ x. step_of x mid.loaded.memory) live.is ∙ call_step thread.cpu bound mid.loaded.memory 3 its.begins at.holds (omega arith) in
        let here : code_at s.loaded.modules.process s.loaded.modules.maps (pc_of cpu) ≡ None = ap (code_at s.loaded.modules.process s.loaded.modules.maps) (at_end mid.loaded.memory) ∙ zeros.no_code in
        let process : mid.loaded.modules.process ≡ s.loaded.modules.process = stands.loaded'.process' ∙ sym stays.loaded'.process' in
        let maps : mid.loaded.modules.maps ≡ s.loaded.modules.maps = stands.loaded'.maps' ∙ sym stays.loaded'.maps' in
        let nowhere : code_at mid.loaded.modules.process mid.loaded.modules.maps (pc_of cpu) ≡ None = rw (process, maps) here in
        ap (λ (taken : Taken). taken.events) (went_is limit mid t live.thread cpu live.at (lt-leb limit mid.steps early) step)
        ∙ no_lines mid.loaded.modules.process mid.loaded.modules.maps (suc mid.steps) t (record live.thread { cpu = cpu }) nowhere

    faults : own_turns t before ≡ 4 → turn_of limit mid t ≡ stopped mid t (stop.Fault 0)
    faults four =
        let at : InCall thread.cpu bound t 4 mid = after_steps 4 four (omega arith) in
        let live = thread_of (thread_at mid.threads t) (cpu_after thread.cpu bound 4) at.cpu in
        let pc : pc_of live.thread.cpu ≡ 0 = ap pc_of live.is ∙ at_end mid.loaded.memory ∙ zeros.zero' in
        stops_there limit mid t live.thread live.at (lt-leb limit mid.steps early)
        (step_fails live.thread.cpu mid.loaded.memory pc (unmapped mid.loaded stands.loaded'.consistent))

-- ---- the calls of a run

pub calls_fault : (l : Loaded) → l.modules.plan.memory < 2 ^ 32 → (limit : ℕ) (begin : State) → StandsAtMoment l limit begin → (turns : List ℕ) → EnteredCallsFault limit begin turns
calls_fault l small limit begin first turns = record {
  silent = λ s mid coming before rest t thread call moment enters clear leads split three there early.
      silent l small limit s (stay l small limit begin first turns s coming moment) t thread call enters clear leads before mid there early three;
  faults = λ s mid coming before rest t thread call moment enters clear leads split four there early.
      faults l small limit s (stay l small limit begin first turns s coming moment) t thread call enters clear leads before mid there early four;
}
