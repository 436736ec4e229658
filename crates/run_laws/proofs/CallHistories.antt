-- Each call in progress began as many turns of its thread ago as steps of it are done.
use Rattle.std.proofs.Common.{◌≡◌, ◌≢◌, ℕ, suc, ◌+◌, ◌<◌, Bool, true, false, List, [], ◌∷◌, ◌++◌, Option, Some, None, length, refl, ap, sym, subst, ◌∙◌, arith, inl, inr, ◌⊎◌, append-nil, append_assoc}
use Rattle.std.specs.Prelude.{All, Contains, IfSome, filter, map, not, set, ◌==◌}
use Rattle.std.specs.Option.{option_to_list}
use Rattle.std.proofs.lemmas.Bool.{eqb-true, eqb-false}
use Rattle.std.proofs.lemmas.List.{get_or-set_other, get_or-set_same}
use Rattle.std.proofs.lemmas.List.Elements.{All-append, All-filter, All-map, All-weaker, Contains-append_right}
use Rattle.guest_mem.specs.Memory.{GuestMemory}
use Rattle.load_state.specs.Loaded.{Loaded}
use Rattle.run_model.specs.declared.event.Event.{Event}
use Rattle.run_model.specs.declared.thread.Call.{Call}
use Rattle.run_model.specs.declared.thread.TheConstants.{BOUND_CALL}
use Rattle.run_model.specs.declared.thread.Thread.{Thread}
use Rattle.run_model.specs.declared.thread.Turned.{Turned}
use Rattle.run_model.specs.Calls.{call_begun}
use Rattle.run_model.specs.State.{State, thread_at}
use Rattle.run_model.specs.Turns.{Taken, advanced, is_complete, turn_of, went, with_calls}
use Rattle.call_laws.proofs.BegunCalls.{begun}
use Rattle.call_laws.proofs.CallWalks.{thread_inside}
use Rattle.call_laws.specs.Schedules.{after, own_turns, turns_from}
use Rattle.run_laws.specs.Moments.{Enters}
use Rattle.run_laws.proofs.Moments.{StandsAtMoment, each_option, turn-stays}
use Rattle.run_laws.proofs.TurnCases.{GoesOn, IsStep, each_turn}
use Rattle.run_laws.proofs.TurnLists.{one_reached, own_then, then_reached}

pub contains_option : {X : Type 0} (o : Option X) (x : X) → o ≡ Some x → Contains (option_to_list o) x
contains_option None x e = absurd cc
contains_option (Some y) x e = let same : y ≡ x = cc in (0, omega arith, same)

pub new_begins : (l : Loaded) (thread : Thread) (call : Call) → call_begun l.modules.process l.modules.maps thread.cpu ≡ Some call → call.done ≡ 0
new_begins l thread call is = ap (λ (c : Call). c.done) (begun l thread.cpu call is).call'

pub new_length : (l : Loaded) (thread : Thread) (call : Call) → call_begun l.modules.process l.modules.maps thread.cpu ≡ Some call → call.length ≡ BOUND_CALL
new_length l thread call is = ap (λ (c : Call). c.length) (begun l thread.cpu call is).call'

-- ---- places of threads

place_by : (xs : List (Option Thread)) (t u : ℕ) (o : Option Thread) (thread : Thread) (b : Bool) → (u == t) ≡ b → t < length xs → thread_at (set xs t o) u ≡ Some thread
    → ((u ≡ t) × (o ≡ Some thread)) ⊎ ((u ≢ t) × (thread_at xs u ≡ Some thread))
place_by xs t u o thread true same inside at =
    let is : u ≡ t = eqb-true u t same in
    inl (is, sym (get_or-set_same xs t o None inside) ∙ ap (thread_at (set xs t o)) (sym is) ∙ at)
place_by xs t u o thread false other inside at =
    let not_it : u ≢ t = eqb-false u t other in
    inr (not_it, sym (get_or-set_other xs t u o None not_it) ∙ at)

-- a thread that lives after a place was set is the new one at that place, or one that lived at another
pub place_cases : (xs : List (Option Thread)) (t u : ℕ) (o : Option Thread) (thread : Thread) → t < length xs → thread_at (set xs t o) u ≡ Some thread
    → ((u ≡ t) × (o ≡ Some thread)) ⊎ ((u ≢ t) × (thread_at xs u ≡ Some thread))
place_cases xs t u o thread inside at = place_by xs t u o thread (u == t) refl inside at

-- ---- a call in progress

module _ (limit : ℕ) (begin : State) where
  -- of the turns that are done, those of its thread since the call began are as many as its steps
  pub record HasBegun (done : List ℕ) (t : ℕ) (call : Call) : Type 0 where
    pub first : List ℕ
    pub before : List ℕ
    pub done' : done ≡ first ++ before
    pub s : State
    pub reached : turns_from limit first begin ≡ Some s
    pub thread : Thread
    pub new : Call
    pub enters : Enters s t thread new
    pub own : own_turns t before ≡ call.done
    pub length' : call.length ≡ BOUND_CALL

  more_done : (done first before : List ℕ) (u : ℕ) → done ≡ first ++ before → done ++ u ∷ [] ≡ first ++ (before ++ u ∷ [])
  more_done done first before u is = ap (λ ts. ts ++ u ∷ []) is ∙ append_assoc first before (u ∷ [])

  one_own : (t : ℕ) (b : Bool) → (t == t) ≡ b → own_turns t (t ∷ []) ≡ 1
  one_own t true same = rw same refl
  one_own t false other = absurd (eqb-false t t other refl)

  none_own : (t u : ℕ) (b : Bool) → (u == t) ≡ b → t ≢ u → own_turns t (u ∷ []) ≡ 0
  none_own t u true same other = absurd (other (sym (eqb-true u t same)))
  none_own t u false differs other = rw differs refl

  -- one more turn of the thread
  own_step : (done : List ℕ) (t : ℕ) (call : Call) → HasBegun done t call → HasBegun (done ++ t ∷ []) t (advanced call)
  own_step done t call h =
      let one : own_turns t (t ∷ []) ≡ 1 = one_own t (t == t) refl in
      let sum : own_turns t h.before + own_turns t (t ∷ []) ≡ suc call.done = omega (arith, h.own, one) in
      record {
        first = h.first;
        before = h.before ++ t ∷ [];
        done' = more_done done h.first h.before t h.done';
        s = h.s;
        reached = h.reached;
        thread = h.thread;
        new = h.new;
        enters = h.enters;
        own = own_then t h.before (t ∷ []) ∙ sum;
        length' = h.length';
      }

  -- one of another
  other_step : (done : List ℕ) (t u : ℕ) (call : Call) → t ≢ u → HasBegun done t call → HasBegun (done ++ u ∷ []) t call
  other_step done t u call other h =
      let none : own_turns t (u ∷ []) ≡ 0 = none_own t u (u == t) refl other in
      let sum : own_turns t h.before + own_turns t (u ∷ []) ≡ call.done = omega (arith, h.own, none) in
      record {
        first = h.first;
        before = h.before ++ u ∷ [];
        done' = more_done done h.first h.before u h.done';
        s = h.s;
        reached = h.reached;
        thread = h.thread;
        new = h.new;
        enters = h.enters;
        own = own_then t h.before (u ∷ []) ∙ sum;
        length' = h.length';
      }

-- ---- moments

module _ (l : Loaded) (limit : ℕ) (begin : State) where
  abbrev pub HasHistories : List ℕ → State → Type 0
  HasHistories done s = (t : ℕ) (thread : Thread) → thread_at s.threads t ≡ Some thread → All (HasBegun limit begin done t) thread.calls

  -- these turns lead to this state
  pub record IsReached (done : List ℕ) (s : State) : Type 0 where
    pub reached : turns_from limit done begin ≡ Some s
    pub stands : StandsAtMoment l limit s
    pub histories : HasHistories done s

  module _ (done : List ℕ) (s : State) (t : ℕ) (h : IsReached done s) where
    abbrev next : List ℕ
    next = done ++ t ∷ []

    -- the threads but one
    others-kept : (u : ℕ) (thread : Thread) → u ≢ t → thread_at s.threads u ≡ Some thread → All (HasBegun limit begin next u) thread.calls
    others-kept u thread other at =
        All-weaker (HasBegun limit begin done u) (HasBegun limit begin next u) (λ call k. other_step limit begin done u t call other k) thread.calls (h.histories u thread at)

    absent-kept : thread_at s.threads t ≡ None → HasHistories next s
    absent-kept none u thread at =
        others-kept u thread (λ same. let never : Some thread ≡ None = sym at ∙ ap (thread_at s.threads) same ∙ none in absurd cc) at

    -- the thread's own calls, where it goes on to this state
    module _ (was thread : Thread) (memory : GuestMemory) (step : IsStep limit s t was thread memory) (later : State) (there : turns_from limit next begin ≡ Some later)
        (loaded' : later.loaded ≡ record s.loaded { memory = memory })
        (at : thread_at later.threads t ≡ Some (with_calls s.loaded.modules.process s.loaded.modules.maps thread)) where
      abbrev moved : Thread
      moved = with_calls s.loaded.modules.process s.loaded.modules.maps thread

      pub entering-now : (call : Call) → call_begun s.loaded.modules.process s.loaded.modules.maps thread.cpu ≡ Some call → Enters later t moved call
      entering-now call is = record {
        new = record {
          lives = at;
          among = Contains-append_right (filter (λ call. not (is_complete call)) (map advanced thread.calls)) (option_to_list (call_begun s.loaded.modules.process s.loaded.modules.maps thread.cpu)) call
              (contains_option (call_begun s.loaded.modules.process s.loaded.modules.maps thread.cpu) call is);
          none_done = new_begins s.loaded thread call is;
        };
        begun = rw loaded' is;
      }

      -- the call that begins
      new-begun : (call : Call) → call_begun s.loaded.modules.process s.loaded.modules.maps thread.cpu ≡ Some call → HasBegun limit begin next t call
      new-begun call is = record {
        first = next;
        before = [];
        done' = sym (append-nil next);
        s = later;
        reached = there;
        thread = moved;
        new = call;
        enters = entering-now call is;
        own = sym (new_begins s.loaded thread call is);
        length' = new_length s.loaded thread call is;
      }

      own-kept : All (HasBegun limit begin next t) moved.calls
      own-kept =
          let P : Call → Type 0 = HasBegun limit begin next t in
          let o : Option Call = call_begun s.loaded.modules.process s.loaded.modules.maps thread.cpu in
          let old : All (HasBegun limit begin done t) thread.calls = subst (All (HasBegun limit begin done t)) (sym step.calls') (h.histories t was step.at) in
          All-append P (filter (λ call. not (is_complete call)) (map advanced thread.calls)) (option_to_list o)
          (All-filter (λ call. not (is_complete call)) P (map advanced thread.calls)
          (All-map P advanced thread.calls (All-weaker (HasBegun limit begin done t) (λ call. P (advanced call)) (own_step limit begin done t) thread.calls old)))
          (each_option P o new-begun)

    set-kept : (o : Option Thread) → t < length s.threads → ((thread : Thread) → o ≡ Some thread → All (HasBegun limit begin next t) thread.calls)
        → (u : ℕ) (thread : Thread) → thread_at (set s.threads t o) u ≡ Some thread → All (HasBegun limit begin next u) thread.calls
    set-kept o inside new u thread at =
        elim (place_cases s.threads t u o thread inside at) as (λ _. All (HasBegun limit begin next u) thread.calls) [
          | inl here ↦ subst (λ (v : ℕ). All (HasBegun limit begin next v) thread.calls) (sym here.0) (new thread here.1)
          | inr there ↦ others-kept u thread there.0 there.1
        ]

    went-kept : (was thread : Thread) (memory : GuestMemory) → IsStep limit s t was thread memory → (out : List Event) (answer : Turned) → GoesOn limit s t answer
        → turns_from limit next begin ≡ Some (went s t (record s.loaded { memory = memory }) thread out answer).state
        → HasHistories next (went s t (record s.loaded { memory = memory }) thread out answer).state
    went-kept was thread memory step out answer goes there =
        let moved : Thread = with_calls s.loaded.modules.process s.loaded.modules.maps thread in
        let inside : t < length s.threads = thread_inside s.threads t was step.at in
        let later : State = (went s t (record s.loaded { memory = memory }) thread out answer).state in
        let own : All (HasBegun limit begin next t) moved.calls = own-kept was thread memory step later there refl (get_or-set_same s.threads t (Some moved) None inside) in
        set-kept (Some moved) inside (λ other is. let same : moved ≡ other = cc in subst (λ (x : Thread). All (HasBegun limit begin next t) x.calls) same own)

    -- to what the turn leads, these turns and that one do
    pub next-reached : (later : State) → after (turn_of limit s t) ≡ Some later → turns_from limit next begin ≡ Some later
    next-reached later goes = then_reached limit done (t ∷ []) begin s later h.reached (one_reached limit t s later goes)

    histories-kept : IfSome (after (turn_of limit s t)) (HasHistories next)
    histories-kept =
        each_turn limit s t (λ (taken : Taken). turn_of limit s t ≡ taken → IfSome (after taken) (HasHistories next))
        (record {
          absent = λ none is. absent-kept none;
          halts = λ why is. tt;
          goes = λ was thread memory step out answer told goes is.
              let taken : Taken = went s t (record s.loaded { memory = memory }) thread out answer in
              let there = next-reached taken.state (ap after is ∙ goes taken.state) in
              subst (λ (o : Option State). IfSome o (HasHistories next)) (sym (goes taken.state)) (went-kept was thread memory step out answer goes there);
          leaves = λ was thread memory step value some is. set-kept None (thread_inside s.threads t was step.at) (λ thread none. absurd cc);
          ends = λ was thread memory step value is. tt;
          exits = λ was thread memory step value is. tt;
        })
        refl

    all-kept : (o : Option State) → after (turn_of limit s t) ≡ o → IfSome o (StandsAtMoment l limit) → IfSome o (HasHistories next) → IfSome o (IsReached next)
    all-kept None goes stays kept = tt
    all-kept (Some later) goes stays kept = record { reached = next-reached later goes; stands = stays; histories = kept }

    pub turn-reaches : IfSome (after (turn_of limit s t)) (IsReached next)
    turn-reaches = all-kept (after (turn_of limit s t)) refl (turn-stays l limit s t h.stands) histories-kept
