-- The calls of a run arrive.
use Rattle.std.proofs.Common.{◌≡◌, ◌≢◌, ℕ, ◌+◌, ◌^◌, ◌<◌, ◌≤◌, false, cond, List, [], ◌∷◌, ◌++◌, Option, Some, None, length, get_or, set, refl, ap, sym, subst, ◌∙◌, arith}
use Rattle.std.specs.Prelude.{IfSome, nat_le, option_and_then, option_map, unwrap_or}
use Rattle.std.specs.FinMap.{empty}
use Rattle.std.specs.Option.{option_map_or}
use Rattle.std.proofs.lemmas.List.{get_or-set_other}
use Rattle.std.proofs.lemmas.List.Elements.{All-contains}
use Rattle.std.proofs.lemmas.Option.{IfSome_then}
use Rattle.elf_model.specs.declared.func.Func.{Func}
use Rattle.elf_model.specs.declared.object.Object.{Object}
use Rattle.elf_model.specs.declared.object.Rel.{Rel}
use Rattle.elf_model.specs.Places.{slot_of}
use Rattle.a32_machine.specs.declared.cpu.Cpu.{Cpu}
use Rattle.a32_machine.specs.Registers.{pc_of}
use Rattle.a32_machine.proofs.Arrivals.{by_sixteen}
use Rattle.load_model.specs.declared.words.SlotPair.{SlotPair}
use Rattle.load_model.specs.Image.{got_of}
use Rattle.load_map.specs.Maps.{map_at}
use Rattle.load_map.specs.Translation.{placed}
use Rattle.load_model.specs.Linkage.{linkage_of}
use Rattle.load_model.specs.Process.{object_at}
use Rattle.load_model.specs.Unbound.{is_unbound, stub_of, unbound_of}
use Rattle.elf_model.specs.Filled.{slot_site}
use Rattle.load_state.specs.Consistent.{IsConsistent}
use Rattle.load_state.specs.Loaded.{Loaded, placing_of}
use Rattle.load_state.specs.Slots.{function_now, slot_function, slot_pair_at, slot_pair_of}
use Rattle.run_model.specs.declared.event.Event.TheVariants.{Arrive}
use Rattle.run_model.specs.declared.thread.Call.{Call}
use Rattle.run_model.specs.declared.thread.Thread.{Thread}
use Rattle.run_model.specs.declared.thread.Turned.TheVariants.{Next}
use Rattle.placed_code.specs.Places.{code_at, got_word}
use Rattle.run_model.specs.State.{State, thread_at}
use Rattle.run_model.specs.Turns.{turn_of}
use Rattle.call_laws.proofs.ClearEntries.{slot_listed}
use Rattle.call_laws.specs.Calls.{BoundCall, arrived, bound_call, slot_of as slot_address, standing}
use Rattle.call_laws.specs.Schedules.{events_from, own_turns, turns_from}
use Rattle.call_laws.proofs.Arrivals.{IsMade, Making}
use Rattle.fd_base.proofs.Options.{one_value}
use Rattle.call_laws.proofs.ListMembers.{contains_has, has_contains}
use Rattle.call_laws.proofs.EntrySteps.{standing-pc}
use Rattle.call_laws.proofs.CallWalks.{InCall, call_walks, calls_go_on, calls_keep, thread_of}
use Rattle.call_laws.specs.BegunCalls.{IsAtClearEntry, IsHeldCall}
use Rattle.call_laws.proofs.BegunCalls.{begun_calls_hold_lem}
use Rattle.call_laws.proofs.SlotCode.{slots_lead_to_placed_code_lem}
use Rattle.run_laws.specs.Arrivals.{HasArrived, IsArrival, LeadsTo, slot_place}
use Rattle.run_laws.specs.Journal.{EnteredCallsArrive, EnteredCallsGoOn, EnteredCallsKeepMemory, NewCallsBegin}
use Rattle.run_laws.specs.Moments.{Enters, IsMoment}
use Rattle.run_laws.proofs.Moments.{IsOwn, StandsAtMoment, turns-stay}
use Rattle.run_laws.proofs.ArrivalLines.{Arrives, arrives}

-- ---- the registers at the function

module _ (begin : Cpu) (sixteen : length begin.r ≡ 16) (pc r12 r9 : ℕ) where
  standing-got : get_or (standing begin pc r12 r9).r 9 0 ≡ r9
  standing-got =
      by_sixteen (λ (r : List ℕ). get_or (set (set (set r 12 r12) 9 r9) 15 pc) 9 0 ≡ r9) (λ a0 a1 a2 a3 a4 a5 a6 a7 a8 a9 a10 a11 a12 a13 a14 a15. refl) begin.r sixteen

  standing-other : (i : ℕ) → i ≢ 9 → i ≢ 12 → i ≢ 15 → get_or (standing begin pc r12 r9).r i 0 ≡ get_or begin.r i 0
  standing-other i not_9 not_12 not_15 =
      get_or-set_other (set (set begin.r 12 r12) 9 r9) 15 i pc 0 not_15 ∙ get_or-set_other (set begin.r 12 r12) 9 i r9 0 not_9 ∙ get_or-set_other begin.r 12 i r12 0 not_12

  standing-slot : get_or (standing begin pc r12 r9).r 12 0 ≡ r12
  standing-slot =
      by_sixteen (λ (r : List ℕ). get_or (set (set (set r 12 r12) 9 r9) 15 pc) 12 0 ≡ r12) (λ a0 a1 a2 a3 a4 a5 a6 a7 a8 a9 a10 a11 a12 a13 a14 a15. refl) begin.r sixteen

-- ---- where a slot leads

got_is : (l : Loaded) (m : ℕ) → got_of (placing_of l.modules.process l.modules.maps empty) m ≡ got_word l.modules.process l.modules.maps m
got_is l m = by (object_at l.modules.process m)
  where
    by : (o : Option Object) → option_map_or (placed (map_at l.modules.maps m)) (option_map (λ (x : Object). x.got) o) 0 ≡ unwrap_or (option_map (λ (x : Object). placed (map_at l.modules.maps m) x.got) o) 0
    by None = refl
    by (Some o) = refl

pub place_is : (l : Loaded) (m k : ℕ) (o : Object) (r : Rel) → object_at l.modules.process m ≡ Some o → slot_of o k ≡ Some r → slot_place l m k ≡ Some (placed (map_at l.modules.maps m) r.site)
place_is l m k o r live is =
    ap (λ (x : Option Object). option_map (λ (q : Rel). placed (map_at l.modules.maps m) q.site) (option_and_then (λ (y : Object). slot_of y k) x)) live
    ∙ ap (option_map (λ (q : Rel). placed (map_at l.modules.maps m) q.site)) is

-- the pair of a slot that leads to a function: where the slot is placed, and the function's placed entry point, at which its code is, and the GOT of its module
record IsPairOf (l : Loaded) (m k : ℕ) (f : Func) (pair : SlotPair) : Type 0 where
  place' : slot_place l m k ≡ Some pair.addr
  code' : pair.code ≡ placed (map_at l.modules.maps f.module) f.value
  got' : pair.got ≡ got_word l.modules.process l.modules.maps f.module
  is_code : code_at l.modules.process l.modules.maps pair.code ≡ Some f

pair_of : (l : Loaded) (m k : ℕ) (f : Func) (pair : SlotPair) → IsConsistent l → is_unbound l.modules.process m k ≡ false → LeadsTo l m k f → slot_pair_of l.modules.process l.modules.maps m k ≡ Some pair → IsPairOf l m k f pair
pair_of l m k f pair consistent bound leads listed =
    let p = placing_of l.modules.process l.modules.maps empty in
    let at : SlotPair = slot_pair_at (linkage_of l.modules.process) p m leads.object' (unbound_of l.modules.process m) (slot_site k leads.rel) in
    let function = slot_function (linkage_of l.modules.process) m leads.object' leads.rel in
    let now : function_now (linkage_of l.modules.process) m leads.object' (unbound_of l.modules.process m) (slot_site k leads.rel) ≡ Some f =
    ap (λ b. cond b (Some (stub_of m leads.object' leads.rel)) function) bound ∙ leads.leads in
    let both : Some pair ≡ Some at = sym listed ∙ slot_listed l m k leads.object' leads.rel leads.live leads.is_slot in
    let same : pair ≡ at = cc in
    record {
      place' = place_is l m k leads.object' leads.rel leads.live leads.is_slot ∙ ap (λ (s : SlotPair). Some s.addr) (sym same);
      code' = ap (λ (s : SlotPair). s.code) same ∙ ap (λ (x : Option Func). option_map_or (λ (g : Func). placed (map_at l.modules.maps g.module) g.value) x 0) now;
      got' = ap (λ (s : SlotPair). s.got) same ∙ ap (λ (x : Option Func). option_map_or (λ (g : Func). got_of p g.module) x 0) now ∙ got_is l f.module;
      is_code =
          slots_lead_to_placed_code_lem.function l m k leads.object' leads.rel pair f consistent (record { live = leads.live; is_slot = leads.is_slot; bound = bound; pair = listed }) leads.leads;
    }

-- ---- a moment at which a call begins

module _ (l : Loaded) (small : l.modules.plan.memory < 2 ^ 32) (limit : ℕ) where
  module _ (s : State) (stays : StandsAtMoment l limit s) (t : ℕ) (thread : Thread) (call : Call) (enters : Enters s t thread call) (clear : IsAtClearEntry s.loaded thread.cpu call) where
    pub registers : length thread.cpu.r ≡ 16
    registers = (stays.threads' t thread enters.new.lives).registers

    -- what the call rests on
    pub held : IsHeldCall s.loaded thread.cpu call
    held =
        let below : s.loaded.modules.plan.memory < 2 ^ 32 = rw stays.loaded'.plan' small in
        begun_calls_hold_lem s.loaded thread.cpu call stays.loaded'.consistent below registers enters.begun clear

    abbrev pub c : BoundCall
    c = bound_call (pc_of thread.cpu) (got_word s.loaded.modules.process s.loaded.modules.maps call.number) held.pair

    in_call : InCall thread.cpu c t 0 s
    in_call = record { cpu = ap (option_map (λ (x : Thread). x.cpu)) enters.new.lives; holds = held.holds }

    -- the call after some turns
    pub at_mid : (before : List ℕ) (mid : State) → own_turns t before ≤ 4 → turns_from limit before s ≡ Some mid → InCall thread.cpu c t (0 + own_turns t before) mid
    at_mid before mid few there =
        let walked : IfSome (turns_from limit before s) (InCall thread.cpu c t (0 + own_turns t before)) =
        call_walks limit t thread.cpu c held.begins before s 0 in_call (omega arith) in
        rw there at walked

    go_on : (before : List ℕ) (mid : State) → own_turns t before ≤ 3 → turns_from limit before s ≡ Some mid → mid.steps < limit → (turn_of limit mid t).answer ≡ Next
    go_on before mid few there early =
        let at : InCall thread.cpu c t (0 + own_turns t before) mid = at_mid before mid (omega arith) there in
        calls_go_on limit mid t thread.cpu c (0 + own_turns t before) held.begins at.holds at.cpu (omega arith) early

    keeps : (before : List ℕ) (mid : State) → own_turns t before ≤ 3 → turns_from limit before s ≡ Some mid → (turn_of limit mid t).state.loaded ≡ mid.loaded
    keeps before mid few there =
        calls_keep limit mid t thread.cpu c held.begins (0 + own_turns t before) (nat_le limit mid.steps) refl (at_mid before mid (omega arith) there) (omega arith)

    module _ (f : Func) (leads : LeadsTo s.loaded call.number call.slot f) where
      pair : IsPairOf s.loaded call.number call.slot f held.pair
      pair = pair_of s.loaded call.number call.slot f held.pair stays.loaded'.consistent (stays.bound call.number call.slot) leads held.listed

      making : Making limit t thread.cpu c f held.begins 0 s
      making =
          let made : IsMade thread.calls 0 = record { call = call; among = contains_has thread.calls call enters.new.among; length = held.is_bound; done = held.is_new } in
          record {
            at = in_call;
            made = λ other at. subst (λ (x : Thread). IsMade x.calls 0) (one_value (thread_at s.threads t) thread other enters.new.lives at) made;
            place = pair.is_code;
          }

      has_arrived : (now : Cpu) → now ≡ arrived thread.cpu c → HasArrived s.loaded call.number call.slot thread.cpu now f
      has_arrived now is =
          let r12 : ℕ = slot_address c in
          let there : HasArrived s.loaded call.number call.slot thread.cpu (arrived thread.cpu c) f =
          record {
            pc' = standing-pc thread.cpu s.loaded.memory registers held.pair.code r12 held.pair.got ∙ pair.code';
            got' = standing-got thread.cpu registers held.pair.code r12 held.pair.got ∙ pair.got';
            slot' = pair.place' ∙ ap (λ (a : ℕ). Some a) (sym (standing-slot thread.cpu registers held.pair.code r12 held.pair.got ∙ held.leads));
            others = standing-other thread.cpu registers held.pair.code r12 held.pair.got;
            n' = refl;
            z' = refl;
            c' = refl;
            v' = refl;
          } in
          subst (λ (x : Cpu). HasArrived s.loaded call.number call.slot thread.cpu x f) (sym is) there

      is_arrival : (turns : List ℕ) (later : State) → Arrives limit t thread.cpu c f held.begins (events_from limit turns s) later → IsArrival limit s turns t thread.cpu call f later
      is_arrival turns later h =
          let live = thread_of (thread_at later.threads t) (arrived thread.cpu c) h.0.cpu in
          record {
            now = live.thread;
            lives = live.at;
            arrived = has_arrived live.thread.cpu live.is;
            line = has_contains (events_from limit turns s) (Arrive later.steps t f) h.1;
          }

      arrive : (before : List ℕ) → own_turns t before ≡ 3 → IfSome (turns_from limit (before ++ t ∷ []) s) (IsArrival limit s (before ++ t ∷ []) t thread.cpu call f)
      arrive before three =
          let turns : List ℕ = before ++ t ∷ [] in
          IfSome_then (turns_from limit turns s) {P = Arrives limit t thread.cpu c f held.begins (events_from limit turns s)} {Q = IsArrival limit s turns t thread.cpu call f}
          (arrives limit t thread.cpu c f held.begins before s three making) (is_arrival turns)

  -- ---- the calls of a run

  module _ (begin : State) (first : StandsAtMoment l limit begin) (turns : List ℕ) where
    pub stay : (s : State) (coming : List ℕ) → IsMoment limit begin turns s coming → StandsAtMoment l limit s
    stay s coming moment = rw moment.state' at (turns-stay l limit moment.done begin first)

    pub calls_arrive : EnteredCallsArrive limit begin turns
    calls_arrive s coming before rest t thread call f moment enters clear leads split three = arrive s (stay s coming moment) t thread call enters clear f leads before three

    pub calls_continue : EnteredCallsGoOn limit begin turns
    calls_continue s mid coming before rest t thread call moment enters clear split few there early =
        go_on s (stay s coming moment) t thread call enters clear before mid few there early

    pub calls_leave_memory : EnteredCallsKeepMemory limit begin turns
    calls_leave_memory s mid coming before rest t thread call moment enters clear split few there =
        keeps s (stay s coming moment) t thread call enters clear before mid few there

    -- a new call begins with the cpu of its thread
    pub new_calls_begin : NewCallsBegin limit begin turns
    new_calls_begin s coming t thread call moment new =
        let stays = stay s coming moment in
        let own : IsOwn l limit thread.cpu call = All-contains (IsOwn l limit thread.cpu) thread.calls call (stays.threads' t thread new.lives).calls' new.among in
        record { new = new; begun = rw (stays.loaded'.process', stays.loaded'.maps') (own new.none_done) }
