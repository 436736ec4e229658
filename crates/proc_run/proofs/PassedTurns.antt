-- Quiet steps of a thread are quiet turns of it, and what comes behind them is one more turn.
use Rattle.std.proofs.Common.{◌≡◌, ℕ, zero, suc, ◌+◌, ◌-◌, ◌<◌, ◌≤◌, false, true, List, [], ◌∷◌, Option, Some, None, Ok, Err, get_or, refl, sym, ap, subst, ◌∙◌, arith, add-one, add-zero, add-suc}
use Rattle.std.specs.Prelude.{Result, All, IfOk, filter, is_some, option_and_then, set}
use Rattle.std.proofs.lemmas.Bool.{lt-leb}
use Rattle.std.proofs.lemmas.List.{append-nil, get_or-set_same}
use Rattle.load_map.specs.declared.entry.MapEntry.{MapEntry}
use Rattle.load_model.specs.declared.module.SymbolicProcess.{SymbolicProcess}
use Rattle.load_state.specs.Loaded.{Loaded}
use Rattle.a32_machine.specs.Step.{step_of}
use Rattle.a32_machine.specs.Stepped.{Stepped}
use Rattle.guest_mem.specs.Memory.{GuestMemory}
use Rattle.run_turn.specs.declared.lookups.Lookups.{Lookups}
use Rattle.run_turn.specs.parts.Lookups.{AreKnown}
use Rattle.run_turn.specs.parts.QuietCalls.{NoneComplete, calls_after}
use Rattle.run_turn.proofs.CallsInTurn.{goes_on}
use Rattle.run_turn.proofs.QuietCalls.{all_stay, none_done}
use Rattle.run_model.specs.declared.service.Served.{Served}
use Rattle.run_model.specs.declared.service.Served.TheVariants.{Went}
use Rattle.run_model.specs.declared.thread.Call.{Call}
use Rattle.run_model.specs.declared.thread.Thread.{Thread}
use Rattle.run_model.specs.Calls.{call_begun, call_through}
use Rattle.run_model.specs.Instructions.{Obeyed, obeyed_after, obeyed_by}
use Rattle.run_model.specs.State.{State, lives, thread_at}
use Rattle.run_model.specs.Turns.{Taken, gone_as, gone_by, turn_of, is_complete, turned_at, turned_by}
use Rattle.run_turn.specs.declared.quiet.Passed.{Passed}
use Rattle.run_turn.specs.declared.settling.Settled.{Settled}
use Rattle.run_turn.specs.parts.QuietSteps.{EndsBy, GoQuietly, GoesQuietly, HasObeyedOn, Machine, machine_of, thread_on}
use Rattle.run_turn.specs.parts.QuietTurns.{quiet, taken_as}
use Rattle.run_turn.specs.parts.Remainder.{IsAt, Left, state_with}
use Rattle.run_turn.specs.parts.StopLaws.{StopsKeep}
use Rattle.proc_run.specs.parts.QuietRuns.{AreQuiet, ArePassing, IsPassing, Passes}
use Rattle.proc_run.specs.parts.TakenTurns.{EndsOn, HasObeyed, HasPassedOn, loaded_on, thread_after, threads_on}
use Rattle.proc_run.proofs.LivePlaces.{one_lives, within}
use Rattle.proc_run.proofs.SettledTurns.{Threads, quiet_taken, set_back, set_twice, turn_taken}

-- ---- quiet steps are quiet turns

module _ (limit t : ℕ) (l : Loaded) (threads : Threads) (thread : Thread) (at : thread_at threads t ≡ Some thread) where
  -- the process over a machine, where so many steps are done
  abbrev state_on : ℕ → Machine → ℕ → State
  state_on n m steps = state_with (loaded_on l m) (threads_on threads t thread n m) steps

  pub there : (n : ℕ) (m : Machine) → thread_at (threads_on threads t thread n m) t ≡ Some (thread_on n thread m.cpu)
  there n m = get_or-set_same threads t (Some (thread_on n thread m.cpu)) None (within threads t thread at)

  one_turn : (i : ℕ) (m n : Machine) (steps : ℕ) → All (λ call. is_complete call ≡ false) (calls_after (suc i) thread.calls) → steps < limit
      → GoesQuietly l.modules.process l.modules.maps m n → turn_of limit (state_on i m steps) t ≡ quiet (state_on (suc i) n (suc steps))
  unfolding turn_of
  one_turn i m n steps stay below h =
      let here : Thread = thread_on i thread m.cpu in
      let begun : call_begun l.modules.process l.modules.maps n.cpu ≡ None = ap (option_and_then (call_through l.modules.process l.modules.maps n.cpu)) h.clear in
      let within_limit : turned_by limit (state_on i m steps) t here ≡ gone_by (state_on i m steps) t here (obeyed_after m.cpu thread.refusal (step_of m.cpu m.memory)) =
      rw (lt-leb limit steps below) refl
      in
      let kept : filter goes_on (calls_after (suc i) thread.calls) ≡ calls_after (suc i) thread.calls = all_stay (calls_after (suc i) thread.calls) stay in
      let none : filter is_complete (calls_after (suc i) thread.calls) ≡ [] = none_done (calls_after (suc i) thread.calls) stay in
      let goes : gone_as (state_on i m steps) t (loaded_on l n) (thread_on i thread n.cpu) Went ≡ quiet (state_on (suc i) n (suc steps)) =
      rw (begun, kept, none, append-nil, set_twice) refl in
      ap (turned_at limit (state_on i m steps) t) (there i m)
      ∙ within_limit
      ∙ ap (λ (x : Stepped). gone_by (state_on i m steps) t here (obeyed_after m.cpu thread.refusal x)) h.step
      ∙ goes

  many_turns : (n : ℕ) (m k : Machine) (steps : ℕ) → NoneComplete n thread.calls → steps + n ≤ limit → GoQuietly l.modules.process l.modules.maps n m k
      → AreQuiet limit t n (state_on 0 m steps) (state_on n k (steps + n))
  many_turns zero m k steps stay below h = rw add-zero (ap (λ (x : Machine). state_on 0 x steps) h)
  many_turns (suc n) m k steps stay below h =
      rw add-suc (state_on n h.0 (steps + n), many_turns n m h.0 steps stay.0 (omega arith) h.1, one_turn n h.0 k (steps + n) stay.1 (omega arith) h.2)

  begins : (steps : ℕ) → state_on 0 (machine_of thread.cpu l.memory) steps ≡ state_with l threads steps
  begins steps = ap (λ (places : Threads). state_with l places steps) (set_back threads t thread at)

  pub quiet_turns : (n : ℕ) (k : Machine) (steps : ℕ) → NoneComplete n thread.calls → steps + n ≤ limit → GoQuietly l.modules.process l.modules.maps n (machine_of thread.cpu l.memory) k
      → AreQuiet limit t n (state_with l threads steps) (state_on n k (steps + n))
  quiet_turns n k steps stay below h =
      subst (λ (s : State). AreQuiet limit t n s (state_on n k (steps + n))) (begins steps)
      (many_turns n (machine_of thread.cpu l.memory) k steps stay below h)

-- ---- what comes behind them

pub same_read : (places : Threads) (t : ℕ) (d : Option Thread) (one other : Thread) → thread_at places t ≡ Some one → get_or places t d ≡ Some other → one ≡ other
same_read [] t d one other h k = cc
same_read (x ∷ places) zero d one other h k = cc
same_read (x ∷ places) (suc t) d one other h k = same_read places t d one other h k

same_place : (places : Threads) (t : ℕ) (one other : Thread) → thread_at places t ≡ Some one → thread_at places t ≡ Some other → one ≡ other
same_place places t one other h k = cc

-- what instructions of a thread that are obeyed come to
abbrev pub Obeys : Lookups → ℕ → Loaded → Loaded → Threads → Threads → ℕ → ℕ → Option Served → Type 0
Obeys known most old new threads mid t n last =
    (thread : Thread) (p : SymbolicProcess) (maps : List (List MapEntry)) → thread_at threads t ≡ Some thread → AreKnown p maps known
    → HasPassedOn p maps most old new threads mid t thread (record { quiet = n; last = last })

at_most : (most n : ℕ) (old new : Loaded) (threads later : Threads) (t : ℕ) (thread : Thread) (k : Machine) (last : Option Served) → EndsOn last most n old new threads later t thread k → n ≤ most
at_most most n old new threads later t thread k None h = omega (arith, h.0)
at_most most n old new threads later t thread k (Some served) h = omega (arith, h.0)

module _ (limit t most left : ℕ) (old new : Loaded) (threads mid : Threads) (steps n : ℕ) (known : Lookups) (live : lives threads t ≡ true)
    (are_known : AreKnown old.modules.process old.modules.maps known) (some : 0 < most) (in_limit : steps + most ≤ limit) (in_left : most ≤ left) where
  abbrev Behind : Thread → Machine → Type 0
  Behind thread k = AreQuiet limit t n (state_with old threads steps) (state_with (loaded_on old k) (threads_on threads t thread n k) (steps + n))

  -- how many are quiet
  pub few_quiet : (last : Option Served) → Obeys known most old new threads mid t n last → n ≤ most
  few_quiet last obeys =
      let one = one_lives (thread_at threads t) live in
      let h = obeys one.0 old.modules.process old.modules.maps one.1 are_known in
      at_most most n old new threads mid t one.0 h.mid last h.last'

  pub fewer_quiet : (served : Served) → Obeys known most old new threads mid t n (Some served) → n < most
  fewer_quiet served obeys =
      let one = one_lives (thread_at threads t) live in
      (obeys one.0 old.modules.process old.modules.maps one.1 are_known).last'.0

  -- all that were asked for are quiet
  pub all_quiet : Obeys known most old new threads mid t n None → ArePassing limit t left (left - n) (state_with old threads steps) (state_with new mid (steps + n))
  all_quiet obeys =
      let one = one_lives (thread_at threads t) live in
      let h = obeys one.0 old.modules.process old.modules.maps one.1 are_known in
      let count : n ≡ most = h.last'.0 in
      let behind : Behind one.0 h.mid = quiet_turns limit t old threads one.0 one.1 n h.mid steps h.stay (omega arith) h.quiet' in
      record {
        count = n;
        some = omega arith;
        taken = omega arith;
        quiet' = rw (h.last'.1, h.last'.2) behind;
      }

  -- one more is quiet
  pub one_quiet : StopsKeep → (served : Served) (p : SymbolicProcess) (maps : List (List MapEntry)) → p ≡ new.modules.process → maps ≡ new.modules.maps
      → Obeys known most old new threads mid t n (Some served)
      → ((l : Loaded) (thread : Thread) (k : ℕ) → IsAt l p maps mid t thread → gone_as (state_with l mid k) t l thread served ≡ quiet (state_with l mid (suc k)))
      → ArePassing limit t left (left - n - 1) (state_with old threads steps) (state_with new mid (steps + n + 1))
  one_quiet keep served p maps same_p same_maps obeys quiets =
      let one = one_lives (thread_at threads t) live in
      let h = obeys one.0 old.modules.process old.modules.maps one.1 are_known in
      let less : n < most = h.last'.0 in
      let behind : Behind one.0 h.mid = quiet_turns limit t old threads one.0 one.1 n h.mid steps h.stay (omega arith) h.quiet' in
      let here = there limit t old threads one.0 one.1 n h.mid in
      record {
        count = suc n;
        some = omega arith;
        taken = omega arith;
        quiet' = (
          state_with (loaded_on old h.mid) (threads_on threads t one.0 n h.mid) (steps + n),
          behind,
          quiet_taken keep limit (loaded_on old h.mid) new p maps (threads_on threads t one.0 n h.mid) mid (steps + n) (steps + n + 1) t served
              (ap is_some here) (lt-leb limit (steps + n) (omega arith)) same_p same_maps
              (λ thread at. subst (λ (x : Thread). HasObeyed (loaded_on old h.mid) new (threads_on threads t one.0 n h.mid) mid t x served) (same_place (threads_on threads t one.0 n h.mid) t (thread_on n one.0 h.mid.cpu) thread here at) h.last'.1)
              (add-one (steps + n)) quiets,
        );
      }

  -- something may be told of one more
  pub one_told : StopsKeep → (served : Served) (p : SymbolicProcess) (maps : List (List MapEntry)) → p ≡ new.modules.process → maps ≡ new.modules.maps
      → Obeys known most old new threads mid t n (Some served) → (ended : Threads) (after : ℕ) (r : Settled)
      → ((l : Loaded) (thread : Thread) → IsAt l p maps mid t thread → Left l ended after r.answer r.events (gone_as (state_with l mid (steps + n)) t l thread served))
      → IsPassing limit t left (left - n - 1) (state_with old threads steps) (state_with new ended after) r
  one_told keep served p maps same_p same_maps obeys ended after r settles =
      let one = one_lives (thread_at threads t) live in
      let h = obeys one.0 old.modules.process old.modules.maps one.1 are_known in
      let less : n < most = h.last'.0 in
      let here = there limit t old threads one.0 one.1 n h.mid in
      record {
        count = n;
        mid = state_with (loaded_on old h.mid) (threads_on threads t one.0 n h.mid) (steps + n);
        taken = omega arith;
        quiet' = quiet_turns limit t old threads one.0 one.1 n h.mid steps h.stay (omega arith) h.quiet';
        turn = turn_taken {E = Unit {0}} keep limit (loaded_on old h.mid) new p maps (threads_on threads t one.0 n h.mid) mid ended (steps + n) after t served
            (Ok r) (ap is_some here) (lt-leb limit (steps + n) (omega arith)) same_p same_maps
            (λ thread at. subst (λ (x : Thread). HasObeyed (loaded_on old h.mid) new (threads_on threads t one.0 n h.mid) mid t x served) (same_place (threads_on threads t one.0 n h.mid) t (thread_on n one.0 h.mid.cpu) thread here at) h.last'.1)
            settles;
      }

-- ---- a turn by itself

module _ (limit t later : ℕ) (old new : State) where
  one_is_quiet : (n : ℕ) → 0 < n → later + n ≡ 1 → AreQuiet limit t n old new → turn_of limit old t ≡ quiet new
  one_is_quiet zero some all h = absurd (omega arith)
  one_is_quiet (suc zero) some all h = ap (λ (s : State). turn_of limit s t) (sym h.1) ∙ h.2
  one_is_quiet (suc (suc n)) some all h = absurd (omega arith)

  one_is_told : (n : ℕ) (mid : State) (x : Taken) → later + suc n ≡ 1 → AreQuiet limit t n old mid → turn_of limit mid t ≡ x → turn_of limit old t ≡ x
  one_is_told zero mid x all h is = ap (λ (s : State). turn_of limit s t) (sym h) ∙ is
  one_is_told (suc n) mid x all h is = absurd (omega arith)

  pub turn_by_itself : (r : Option Settled) → Passes limit t r 1 later old new → turn_of limit old t ≡ taken_as r new
  turn_by_itself None h = one_is_quiet h.count h.some h.taken h.quiet'
  turn_by_itself (Some r) h = one_is_told h.count h.mid (record { answer = r.answer; state = new; events = r.events }) h.taken h.quiet' h.turn

-- ---- in the loader's memory, at the thread's place

module _ (p : SymbolicProcess) (maps : List (List MapEntry)) (most : ℕ) (old new : Loaded) (threads later : Threads) (t : ℕ) (thread after : Thread)
    (rest : new ≡ record old { memory = new.memory }) (placed : later ≡ set threads t (Some after)) where
  abbrev with_calls_of : Thread → List Call → Thread
  with_calls_of x cs = record { cpu = x.cpu; refusal = x.refusal; calls = cs }

  ends_on : (o : Option Served) (n : ℕ) (mid : Machine) → after.calls ≡ calls_after n thread.calls → EndsBy o most n thread mid after new.memory
      → EndsOn o most n old new threads later t thread mid
  ends_on None n mid counted h = (h.0, rest ∙ ap (λ (m : GuestMemory). record old { memory = m }) h.2, placed ∙ ap (λ (x : Thread). set threads t (Some x)) h.1)
  ends_on (Some served) n mid counted h =
      let d : Obeyed = obeyed_by mid.cpu thread.refusal mid.memory in
      let is : after ≡ thread_after (thread_on n thread mid.cpu) d =
      ap (λ (cs : List Call). with_calls_of after cs) counted ∙ ap (λ (x : Obeyed). thread_after (thread_on n thread mid.cpu) x) h.1
      in (
        h.0,
        record {
          served' = ap (λ (x : Obeyed). x.served) h.1;
          loaded' = rest ∙ ap (λ (x : Obeyed). record old { memory = x.memory }) h.1;
          threads' = placed ∙ ap (λ (x : Thread). set threads t (Some x)) is ∙ sym (set_twice threads t _ _);
        },
      )

  pub passed_on : (passed : Passed) → HasObeyedOn p maps most thread old.memory passed after new.memory → HasPassedOn p maps most old new threads later t thread passed
  passed_on passed h = record { mid = h.mid; quiet' = h.quiet'; stay = h.stay; last' = ends_on passed.last passed.quiet h.mid h.counted h.last' }

pub if_ok_as : {X E : Type 0} (r : Result X E) (P Q : X → Type 0) → ((x : X) → P x → Q x) → IfOk r P → IfOk r Q
if_ok_as (Ok x) P Q f h = f x h
if_ok_as (Err e) P Q f h = tt
