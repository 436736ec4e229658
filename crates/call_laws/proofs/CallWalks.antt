-- A call goes on by the turns of its thread, and stays through all others.
use Rattle.std.proofs.Common.{◌≡◌, ◌≢◌, ℕ, zero, suc, ◌+◌, ◌<◌, ◌≤◌, Bool, true, false, cond, List, [], ◌∷◌, Option, Some, None, length, get_or, refl, ap, sym, subst, ◌∙◌, arith, inl, inr, add-zero}
use Rattle.std.specs.Prelude.{IfSome, nat_le, option_and_then, option_map, ◌==◌}
use Rattle.std.proofs.lemmas.Bool.{cases_lt, eqb-true, eqb-false, lt-leb}
use Rattle.std.proofs.lemmas.List.{get_or_past, get_or-set_same}
use Rattle.std.proofs.lemmas.Option.{IfSome_then}
use Rattle.guest_mem.specs.Memory.{GuestMemory}
use Rattle.guest_mem.specs.parts.Kept.{Keeps}
use Rattle.guest_mem.proofs.Keeping.{fetch_of-kept, is_watched-same, read_of-kept}
use Rattle.a32_machine.specs.declared.cpu.Cpu.{Cpu}
use Rattle.fd_base.specs.Sums.{plus}
use Rattle.a32_machine.specs.Step.{step_of}
use Rattle.a32_machine.specs.Stepped.{went_on}
use Rattle.run_model.specs.declared.event.Stop.TheVariants as stop
use Rattle.run_model.specs.declared.thread.Thread.{Thread}
use Rattle.run_model.specs.declared.thread.Turned.TheVariants.{Next}
use Rattle.run_model.specs.Instructions.{obeyed_after, obeyed_by}
use Rattle.run_model.specs.State.{State, thread_at}
use Rattle.run_model.specs.Turns.{Taken, gone_by, stopped, turn_of, turned_at, went, with_calls}
use Rattle.call_laws.specs.Calls.{BoundCall, Begins, HasCpu, Holds, Stays, arrived, cpu_after, slot_of}
use Rattle.call_laws.specs.parts.TurnLaws.{CallsArrive, CallsGoOn, IsTurnOf}
use Rattle.call_laws.specs.Schedules.{after, own_turns, turns_from}
use Rattle.call_laws.proofs.EntrySteps.{function_step, got_step, offset_step, slot_step, standing-begin}
use Rattle.call_laws.proofs.TurnStages.{turns_keep}

-- ---- what is kept

stays_kept : (m n : GuestMemory) (a v : ℕ) → Keeps m n → Stays m a v → Stays n a v
stays_kept m n a v k h = record {
  value = read_of-kept 4 m n a k h.watched ∙ h.value;
  watched = λ i l. is_watched-same m n (a + i) k.kinds k.marks ∙ h.watched i l;
}

pub holds_kept : (m n : GuestMemory) (c : BoundCall) → Keeps m n → Holds m c → Holds n c
holds_kept m n c k h = record {
  below = h.below;
  word_0 = fetch_of-kept m n c.entry _ k h.word_0;
  word_1 = fetch_of-kept m n (c.entry + 4) _ k h.word_1;
  word_2 = fetch_of-kept m n (c.entry + 8) _ k h.word_2;
  word_3 = fetch_of-kept m n (c.entry + 12) _ k h.word_3;
  word_4 = stays_kept m n (c.entry + 16) c.offset k h.word_4;
  slot = stays_kept m n (slot_of c) c.function k h.slot;
  slot_got = stays_kept m n (plus (slot_of c) 4) c.function_got k h.slot_got;
  aligned = h.aligned;
}

-- ---- a step of the call

pub call_step : (begin : Cpu) (c : BoundCall) (m : GuestMemory) (n : ℕ) → Begins begin c → Holds m c → n < 4
    → step_of (cpu_after begin c n) m ≡ went_on (cpu_after begin c (suc n)) m
call_step begin c m zero b h l =
    ap (λ cpu. step_of cpu m) (standing-begin begin m b.registers c.entry c.got b.place b.got)
    ∙ offset_step begin m b.registers c.entry (get_or begin.r 12 0) c.got c.offset h.below h.word_0 h.word_4.value
call_step begin c m (suc zero) b h l = slot_step begin m b.registers c.entry c.offset c.got h.below h.word_1
call_step begin c m (suc (suc zero)) b h l = got_step begin m b.registers c.entry (slot_of c) c.got c.function_got h.below h.word_2 h.slot_got.value
call_step begin c m (suc (suc (suc zero))) b h l =
    function_step begin m b.registers c.entry c.got c.offset c.function_got c.function h.word_3 h.slot.value h.aligned
call_step begin c m (suc (suc (suc (suc n)))) b h l = absurd (omega arith)

-- ---- a turn of the calling thread

pub stopped_is : (limit : ℕ) (s : State) (t : ℕ) (thread : Thread) → thread_at s.threads t ≡ Some thread → nat_le limit s.steps ≡ true
    → turn_of limit s t ≡ stopped s t stop.Limit
unfolding turn_of
stopped_is limit s t thread at late =
    ap (turned_at limit s t) at ∙ ap (λ b. cond b (stopped s t stop.Limit) (gone_by s t thread (obeyed_by thread.cpu thread.refusal s.loaded.memory))) late

pub went_is : (limit : ℕ) (s : State) (t : ℕ) (thread : Thread) (cpu : Cpu) → thread_at s.threads t ≡ Some thread → nat_le limit s.steps ≡ false
    → step_of thread.cpu s.loaded.memory ≡ went_on cpu s.loaded.memory → turn_of limit s t ≡ went s t s.loaded (record thread { cpu = cpu }) [] Next
unfolding turn_of
went_is limit s t thread cpu at early step =
    ap (turned_at limit s t) at ∙ ap (λ b. cond b (stopped s t stop.Limit) (gone_by s t thread (obeyed_by thread.cpu thread.refusal s.loaded.memory))) early
    ∙ ap (λ after. gone_by s t thread (obeyed_after thread.cpu thread.refusal after)) step

pub thread_inside : (threads : List (Option Thread)) (t : ℕ) (thread : Thread) → thread_at threads t ≡ Some thread → t < length threads
thread_inside threads t thread at =
    elim (cases_lt t (length threads)) as (λ _. t < length threads) [ inl l ↦ l | inr l ↦ absurd (cc (at, get_or_past threads t None l)) ]

pub record OfCpu (o : Option Thread) (cpu : Cpu) : Type 0 where
  pub thread : Thread
  pub at : o ≡ Some thread
  pub is : thread.cpu ≡ cpu

pub thread_of : (o : Option Thread) (cpu : Cpu) → option_map (λ thread. thread.cpu) o ≡ Some cpu → OfCpu o cpu
thread_of None cpu h = absurd (cc)
thread_of (Some thread) cpu h = record { thread = thread; at = refl; is = cc }

pub record InCall (begin : Cpu) (c : BoundCall) (t n : ℕ) (s : State) : Type 0 where
  pub cpu : HasCpu s t (cpu_after begin c n)
  pub holds : Holds s.loaded.memory c

own_turn-by : (limit : ℕ) (s : State) (t n : ℕ) (begin : Cpu) (c : BoundCall) (b : Bool) → nat_le limit s.steps ≡ b → Begins begin c → InCall begin c t n s → n < 4
    → IfSome (after (turn_of limit s t)) (InCall begin c t (suc n))
own_turn-by limit s t n begin c true late b h l =
    let live = thread_of (thread_at s.threads t) (cpu_after begin c n) h.cpu in
    rw (stopped_is limit s t live.thread live.at late) tt
own_turn-by limit s t n begin c false early b h l =
    let live = thread_of (thread_at s.threads t) (cpu_after begin c n) h.cpu in
    let cpu : Cpu = cpu_after begin c (suc n) in
    let step : step_of live.thread.cpu s.loaded.memory ≡ went_on cpu s.loaded.memory = ap (λ x. step_of x s.loaded.memory) live.is ∙ call_step begin c s.loaded.memory n b h.holds l in
    let there = get_or-set_same s.threads t (Some (with_calls s.loaded.modules.process s.loaded.modules.maps (record live.thread { cpu = cpu }))) None (thread_inside s.threads t live.thread live.at) in
    rw (went_is limit s t live.thread cpu live.at early step) (record { cpu = ap (option_map (λ (thread : Thread). thread.cpu)) there; holds = h.holds })

pub own_turn : (limit : ℕ) (s : State) (t n : ℕ) (begin : Cpu) (c : BoundCall) → Begins begin c → InCall begin c t n s → n < 4
    → IfSome (after (turn_of limit s t)) (InCall begin c t (suc n))
own_turn limit s t n begin c b h l = own_turn-by limit s t n begin c (nat_le limit s.steps) refl b h l

-- such a turn leaves the memory, and all that is loaded
pub calls_keep : (limit : ℕ) (s : State) (t : ℕ) (begin : Cpu) (c : BoundCall) → Begins begin c → (n : ℕ) (b : Bool) → nat_le limit s.steps ≡ b → InCall begin c t n s → n < 4
    → (turn_of limit s t).state.loaded ≡ s.loaded
calls_keep limit s t begin c b n true late h l =
    let live = thread_of (thread_at s.threads t) (cpu_after begin c n) h.cpu in
    ap (λ (taken : Taken). taken.state.loaded) (stopped_is limit s t live.thread live.at late)
calls_keep limit s t begin c b n false early h l =
    let live = thread_of (thread_at s.threads t) (cpu_after begin c n) h.cpu in
    let cpu : Cpu = cpu_after begin c (suc n) in
    let step : step_of live.thread.cpu s.loaded.memory ≡ went_on cpu s.loaded.memory = ap (λ x. step_of x s.loaded.memory) live.is ∙ call_step begin c s.loaded.memory n b h.holds l in
    ap (λ (taken : Taken). taken.state.loaded) (went_is limit s t live.thread cpu live.at early step)

-- ---- a turn of another

pub other_turn : (limit : ℕ) (s : State) (t u n : ℕ) (begin : Cpu) (c : BoundCall) → t ≢ u → InCall begin c t n s → IfSome (after (turn_of limit s u)) (InCall begin c t n)
other_turn limit s t u n begin c ne h =
    IfSome_then (after (turn_of limit s u)) {P = IsTurnOf u s} {Q = InCall begin c t n} (turns_keep limit s u)
    (λ later k. record {
      cpu = ap (option_map (λ (thread : Thread). thread.cpu)) (k.others t ne) ∙ h.cpu;
      holds = holds_kept s.loaded.memory later.loaded.memory c k.keeps h.holds;
    })

-- ---- all turns

turn_by : (limit : ℕ) (s : State) (t u n : ℕ) (begin : Cpu) (c : BoundCall) (mine : Bool) → (u == t) ≡ mine → Begins begin c → InCall begin c t n s → n + cond mine 1 0 ≤ 4
    → IfSome (after (turn_of limit s u)) (InCall begin c t (cond mine (suc n) n))
turn_by limit s t u n begin c true e b h l =
    subst (λ (v : ℕ). IfSome (after (turn_of limit s v)) (InCall begin c t (suc n))) (sym (eqb-true u t e)) (own_turn limit s t n begin c b h (omega arith))
turn_by limit s t u n begin c false e b h l = other_turn limit s t u n begin c (λ same. eqb-false u t e (sym same)) h

-- what a turn leads to, the later turns go on from
pub then_turns : (P Q : State → Type 0) (f : State → Option State) (o : Option State) → IfSome o P → ((s : State) → P s → IfSome (f s) Q) → IfSome (option_and_then f o) Q
then_turns P Q f None h g = tt
then_turns P Q f (Some s) h g = g s h

pub turns_more : (n rest : ℕ) (mine : Bool) → cond mine (suc n) n + rest ≡ n + cond mine (suc rest) rest
turns_more n rest true = omega arith
turns_more n rest false = refl

turns_room : (n rest : ℕ) (mine : Bool) → n + cond mine (suc rest) rest ≤ 4 → n + cond mine 1 0 ≤ 4
turns_room n rest true l = omega arith
turns_room n rest false l = omega arith

pub call_walks : (limit : ℕ) (t : ℕ) (begin : Cpu) (c : BoundCall) → Begins begin c → (schedule : List ℕ) (s : State) (n : ℕ) → InCall begin c t n s → n + own_turns t schedule ≤ 4
    → IfSome (turns_from limit schedule s) (InCall begin c t (n + own_turns t schedule))
call_walks limit t begin c b [] s n h l = subst (λ (k : ℕ). InCall begin c t k s) (sym (add-zero n)) h
call_walks limit t begin c b (u ∷ us) s n h l =
    let mine : Bool = u == t in
    let rest : ℕ = own_turns t us in
    let more : cond mine (suc n) n + rest ≡ n + cond mine (suc rest) rest = turns_more n rest mine in
    then_turns (InCall begin c t (cond mine (suc n) n)) (InCall begin c t (n + cond mine (suc rest) rest)) (turns_from limit us) (after (turn_of limit s u))
    (turn_by limit s t u n begin c mine refl b h (turns_room n rest mine l))
    (λ later k. subst (λ (j : ℕ). IfSome (turns_from limit us later) (InCall begin c t j)) more (call_walks limit t begin c b us later (cond mine (suc n) n) k (rw more l)))

-- ---- the laws

pub calls_arrive : CallsArrive
calls_arrive limit s schedule t thread c at b h own =
    let first : InCall thread.cpu c t 0 s = record { cpu = ap (option_map (λ (x : Thread). x.cpu)) at; holds = h } in
    let four : 0 + own_turns t schedule ≡ 4 = omega arith in
    let all : 0 + own_turns t schedule ≤ 4 = omega arith in
    IfSome_then (turns_from limit schedule s) {P = InCall thread.cpu c t (0 + own_turns t schedule)} {Q = λ later. HasCpu later t (arrived thread.cpu c)}
    (call_walks limit t thread.cpu c b schedule s 0 first all)
    (λ later k. subst (λ (n : ℕ). HasCpu later t (cpu_after thread.cpu c n)) four k.cpu)

pub calls_go_on : CallsGoOn
calls_go_on limit s t begin c n b h at l early =
    let live = thread_of (thread_at s.threads t) (cpu_after begin c n) at in
    let step : step_of live.thread.cpu s.loaded.memory ≡ went_on (cpu_after begin c (suc n)) s.loaded.memory = ap (λ x. step_of x s.loaded.memory) live.is ∙ call_step begin c s.loaded.memory n b h l in
    ap (λ (taken : Taken). taken.answer) (went_is limit s t live.thread (cpu_after begin c (suc n)) live.at (lt-leb limit s.steps early) step)
