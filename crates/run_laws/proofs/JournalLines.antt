-- What the lines of turns tell: calls that begin or arrive there, and no more steps than may be done.
use Rattle.std.proofs.Common.{◌≡◌, ℕ, suc, ◌<◌, ◌≤◌, Bool, true, false, cond, List, [], ◌∷◌, ◌++◌, Option, Some, None, refl, ap, sym, subst, ◌∙◌, arith, append_assoc}
use Rattle.std.specs.Prelude.{All, IfSome, filter, map}
use Rattle.std.specs.List.{flat_map}
use Rattle.std.specs.Option.{option_map_or, option_to_list}
use Rattle.std.proofs.lemmas.Bool.{eqb-true}
use Rattle.std.proofs.lemmas.List.{get_or-set_same}
use Rattle.std.proofs.lemmas.List.Elements.{All-append, All-cons, All-head, All-map, All-nil, All-tail, All-weaker}
use Rattle.elf_model.specs.declared.func.Func.{Func}
use Rattle.guest_mem.specs.Memory.{GuestMemory}
use Rattle.load_state.specs.Loaded.{Loaded}
use Rattle.run_model.specs.declared.event.Event.{Event}
use Rattle.run_model.specs.declared.event.Event.TheVariants as event
use Rattle.run_model.specs.declared.thread.Call.{Call}
use Rattle.run_model.specs.declared.thread.Thread.{Thread}
use Rattle.run_model.specs.declared.thread.Turned.{Turned}
use Rattle.placed_code.specs.Places.{code_at}
use Rattle.run_model.specs.Calls.{call_begun}
use Rattle.run_model.specs.State.{State, thread_at}
use Rattle.run_model.specs.Turns.{Taken, advanced, arrival, call_events, entering, is_complete, turn_of, went, with_calls}
use Rattle.a32_machine.specs.Registers.{pc_of}
use Rattle.call_laws.proofs.CallWalks.{thread_inside}
use Rattle.call_laws.specs.Schedules.{after, events_from, turns_from}
use Rattle.run_laws.specs.Lines.{steps_told}
use Rattle.run_laws.specs.Moments.{IsArrived, IsEntered}
use Rattle.run_laws.proofs.CallHistories.{HasBegun, IsReached, entering-now, next-reached, turn-reaches}
use Rattle.run_laws.proofs.Moments.{each_option}
use Rattle.run_laws.proofs.TurnCases.{IsOut, IsStep, each_turn}
use Rattle.run_laws.proofs.TurnLists.{one_reached, since_reached, then_reached}

-- ---- lists

only : {X : Type 0} (P : X → Type 0) (x : X) → P x → All P (x ∷ [])
only P x h = All-cons P x [] h (All-nil P)

passing_by : {X : Type 0} (p : X → Bool) (Q : X → Type 0) (x : X) (xs : List X) (b : Bool) → p x ≡ b → (p x ≡ true → Q x) → All Q (filter p xs) → All Q (cond b (x ∷ filter p xs) (filter p xs))
passing_by p Q x xs true is h k = All-cons Q x (filter p xs) (h is) k
passing_by p Q x xs false is h k = k

-- of those that pass a test
passing : {X : Type 0} (p : X → Bool) (Q : X → Type 0) (xs : List X) → All (λ x. p x ≡ true → Q x) xs → All Q (filter p xs)
passing p Q [] h = All-nil Q
passing p Q (x ∷ xs) h =
    passing_by p Q x xs (p x) refl (All-head (λ y. p y ≡ true → Q y) x xs h) (passing p Q xs (All-tail (λ y. p y ≡ true → Q y) x xs h))

-- the lines of some calls that arrive
arrivals-are : (P : Event → Type 0) (steps t : ℕ) (place : Option Func) (calls : List Call) → ((f : Func) → place ≡ Some f → All (λ call. P (event.Arrive steps t f)) calls)
    → All P (flat_map (λ call. arrival steps t place) calls)
arrivals-are P steps t place [] h = All-nil P
arrivals-are P steps t None (call ∷ calls) h = arrivals-are P steps t None calls (λ f never. absurd cc)
arrivals-are P steps t (Some f) (call ∷ calls) h =
    All-append P (event.Arrive steps t f ∷ []) (flat_map (λ call. arrival steps t (Some f)) calls)
    (only P (event.Arrive steps t f) (All-head (λ call. P (event.Arrive steps t f)) call calls (h f refl)))
    (arrivals-are P steps t (Some f) calls (λ g is. All-tail (λ call. P (event.Arrive steps t g)) call calls (h g is)))

-- ---- what a line tells

module _ (limit : ℕ) (begin : State) where
  abbrev pub TellsCalls : List ℕ → Event → Type 0
  TellsCalls turns (event.Enter n t m k) = IsEntered limit begin turns n t m k
  TellsCalls turns (event.Arrive n t f) = IsArrived limit begin turns n t f
  TellsCalls turns _ = Unit {0}

  pub record Tells (turns : List ℕ) (e : Event) : Type 0 where
    pub calls' : TellsCalls turns e
    pub within : IfSome (steps_told e) (λ n. n ≤ limit)

in_time : (limit n : ℕ) → n < limit → suc n ≤ limit
in_time limit n lt = omega arith

-- ---- a turn

module _ (l : Loaded) (limit : ℕ) (begin : State) (done : List ℕ) (s : State) (t : ℕ) (rest : List ℕ) (h : IsReached l limit begin done s) where
  abbrev turns : List ℕ
  turns = done ++ t ∷ rest

  abbrev next : List ℕ
  next = done ++ t ∷ []

  -- the state after the turn
  module _ (was thread : Thread) (memory : GuestMemory) (step : IsStep limit s t was thread memory) (out : List Event) (answer : Turned)
      (goes : after (turn_of limit s t) ≡ Some (went s t (record s.loaded { memory = memory }) thread out answer).state) where
    abbrev later : State
    later = (went s t (record s.loaded { memory = memory }) thread out answer).state

    abbrev moved : Thread
    moved = with_calls s.loaded.modules.process s.loaded.modules.maps thread

    abbrev place : Option Func
    place = code_at s.loaded.modules.process s.loaded.modules.maps (pc_of thread.cpu)

    there : turns_from limit next begin ≡ Some later
    there = next-reached l limit begin done s t h later goes

    at : thread_at later.threads t ≡ Some moved
    at = get_or-set_same s.threads t (Some moved) None (thread_inside s.threads t was step.at)

    enter-tells : (call : Call) → call_begun s.loaded.modules.process s.loaded.modules.maps thread.cpu ≡ Some call → Tells limit begin turns (entering (suc s.steps) t call)
    enter-tells call is = record {
      calls' = record {
        s = later;
        coming = rest;
        moment = record { done = next; turns' = sym (append_assoc done (t ∷ []) rest); state' = there };
        steps' = refl;
        thread = moved;
        call = call;
        enters = entering-now l limit begin done s t h was thread memory step later there refl at call is;
        number' = refl;
        slot' = refl;
      };
      within = in_time limit s.steps step.early;
    }

    arrive-tells : (f : Func) → place ≡ Some f → (call : Call) → HasBegun limit begin done t call → is_complete (advanced call) ≡ true
        → Tells limit begin turns (event.Arrive (suc s.steps) t f)
    arrive-tells f is call b last =
        let end : suc call.done ≡ call.length = eqb-true (suc call.done) call.length last in
        let four : call.length ≡ 4 = b.length' in
        let since : turns_from limit b.before b.s ≡ Some s =
        since_reached limit b.first b.before begin b.s s b.reached (subst (λ (ts : List ℕ). turns_from limit ts begin ≡ Some s) b.done' h.reached) in
        record {
          calls' = record {
            s = b.s;
            coming = b.before ++ t ∷ rest;
            moment = record { done = b.first; turns' = ap (λ ts. ts ++ t ∷ rest) b.done' ∙ append_assoc b.first b.before (t ∷ rest); state' = b.reached };
            thread = b.thread;
            call = b.new;
            enters = b.enters;
            before = b.before;
            rest = rest;
            coming' = refl;
            three = omega (arith, b.own, end, four);
            later = later;
            reached = then_reached limit b.before (t ∷ []) b.s s later since (one_reached limit t s later goes);
            steps' = refl;
            now = moved;
            lives = at;
            place = is;
          };
          within = in_time limit s.steps step.early;
        }

    out-tells : (e : Event) → IsOut limit s t e → Tells limit begin turns e
    out-tells e (bytes, is) = subst (Tells limit begin turns) (sym is) (record { calls' = tt; within = in_time limit s.steps step.early })

    went-tells : All (IsOut limit s t) out → All (Tells limit begin turns) (went s t (record s.loaded { memory = memory }) thread out answer).events
    went-tells told =
        let P : Event → Type 0 = Tells limit begin turns in
        let o : Option Call = call_begun s.loaded.modules.process s.loaded.modules.maps thread.cpu in
        let moved_on : List Call = map advanced thread.calls in
        let histories : All (HasBegun limit begin done t) thread.calls = subst (All (HasBegun limit begin done t)) (sym step.calls') (h.histories t was step.at) in
        All-append P out (call_events s.loaded.modules.process s.loaded.modules.maps (suc s.steps) t thread) (All-weaker (IsOut limit s t) P out-tells out told)
        (All-append P (flat_map (λ call. arrival (suc s.steps) t place) (filter is_complete moved_on)) (map (entering (suc s.steps) t) (option_to_list o))
        (arrivals-are P (suc s.steps) t place (filter is_complete moved_on) (λ f is.
        let Q : Call → Type 0 = λ call. P (event.Arrive (suc s.steps) t f) in
        passing is_complete Q moved_on
        (All-map (λ call. is_complete call ≡ true → Q call) advanced thread.calls
        (All-weaker (HasBegun limit begin done t) (λ call. is_complete (advanced call) ≡ true → Q (advanced call)) (arrive-tells f is) thread.calls histories))))
        (All-map P (entering (suc s.steps) t) (option_to_list o) (each_option (λ (call : Call). P (entering (suc s.steps) t call)) o enter-tells)))

  silent : (e : Event) → TellsCalls limit begin turns e → IfSome (steps_told e) (λ n. n ≤ limit) → All (Tells limit begin turns) (e ∷ [])
  silent e h k = only (Tells limit begin turns) e (record { calls' = h; within = k })

  turn-tells : All (Tells limit begin turns) (turn_of limit s t).events
  turn-tells =
      each_turn limit s t (λ (taken : Taken). turn_of limit s t ≡ taken → All (Tells limit begin turns) taken.events)
      (record {
        absent = λ none is. All-nil (Tells limit begin turns);
        halts = λ why is. silent (event.Stopped s.steps t why) tt h.stands.within;
        goes = λ was thread memory step out answer told goes is.
            went-tells was thread memory step out answer (ap after is ∙ goes (went s t (record s.loaded { memory = memory }) thread out answer).state) told;
        leaves = λ was thread memory step value some is. silent (event.Done (suc s.steps) t value) tt (in_time limit s.steps step.early);
        ends = λ was thread memory step value is.
            All-cons (Tells limit begin turns) (event.Done (suc s.steps) t value) (event.End (suc s.steps) ∷ []) (record { calls' = tt; within = in_time limit s.steps step.early }) (silent (event.End (suc s.steps)) tt (in_time limit s.steps step.early));
        exits = λ was thread memory step value is. silent (event.Exit (suc s.steps) t value) tt (in_time limit s.steps step.early);
      })
      refl

-- ---- all turns

module _ (l : Loaded) (limit : ℕ) (begin : State) where
  rest-tell : (all us : List ℕ) (o : Option State) (P : State → Type 0) → IfSome o P → ((later : State) → P later → All (Tells limit begin all) (events_from limit us later))
      → All (Tells limit begin all) (option_map_or (events_from limit us) o [])
  rest-tell all us None P h f = All-nil (Tells limit begin all)
  rest-tell all us (Some later) P h f = f later h

  pub turns-tell : (coming done : List ℕ) (s : State) → IsReached l limit begin done s → All (Tells limit begin (done ++ coming)) (events_from limit coming s)
  turns-tell [] done s h = All-nil (Tells limit begin (done ++ []))
  turns-tell (t ∷ ts) done s h =
      let all : List ℕ = done ++ t ∷ ts in
      let next : List ℕ = done ++ t ∷ [] in
      let same : next ++ ts ≡ all = append_assoc done (t ∷ []) ts in
      All-append (Tells limit begin all) (turn_of limit s t).events (option_map_or (events_from limit ts) (after (turn_of limit s t)) [])
      (turn-tells l limit begin done s t ts h)
      (rest-tell all ts (after (turn_of limit s t)) (IsReached l limit begin next) (turn-reaches l limit begin done s t h)
      (λ later k. subst (λ (us : List ℕ). All (Tells limit begin us) (events_from limit ts later)) same (turns-tell ts next later k)))
