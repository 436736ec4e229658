-- The beginning of a run: what is loaded is consistent, and thread 0 stands at the entry point.
use Rattle.std.proofs.Common.{◌≡◌, ℕ, zero, suc, ◌<◌, ◌≤◌, Bool, true, false, cond, List, [], ◌∷◌, Option, Some, None, length, replicate, refl, sym, ap, subst, ◌∙◌, arith, inl, inr}
use Rattle.std.specs.Prelude.{All, map}
use Rattle.std.specs.Option.{option_to_list}
use Rattle.std.proofs.lemmas.List.{get_or-set_same, length-replicate}
use Rattle.std.proofs.lemmas.List.Elements.{All-append, All-cons, All-map, All-nil}
use Rattle.fd_base.specs.Fetched.{Files}
use Rattle.load_laws.proofs.ConsistentAfter.{loads_keep_lem}
use Rattle.load_laws.proofs.BoundPrograms.{programs_bound_lem}
use Rattle.load_laws.proofs.NewLoaders.{new_is_consistent_lem}
use Rattle.load_model.specs.Unbound.{AllBound}
use Rattle.load_outcomes.proofs.EachCommit.{files_taken}
use Rattle.load_model.specs.declared.module.Live.{Live}
use Rattle.load_model.specs.declared.plan.MemPlan.{MemPlan}
use Rattle.load_state.specs.Consistent.{IsConsistent}
use Rattle.load_state.specs.Loaded.{Loaded, LoadedModules}
use Rattle.run_model.specs.declared.event.Event.{Event}
use Rattle.run_model.specs.declared.event.Event.TheVariants as event
use Rattle.run_model.specs.declared.thread.Call.{Call}
use Rattle.run_model.specs.declared.thread.Thread.{Thread}
use Rattle.run_model.specs.Calls.{call_begun}
use Rattle.run_model.specs.Start.{first_events, load_events, load_events_from, load_events_of, state_with}
use Rattle.elf_model.specs.Inits.{has_inits}
use Rattle.run_model.specs.State.{State, thread_at}
use Rattle.run_model.specs.Turns.{entering}
use Rattle.proc_run.specs.BegunProcess.{thread_at_entry}
use Rattle.load_state.specs.ProgramLoad.{IsProgramLoaded, eager}
use Rattle.run_laws.specs.Moments.{Enters}
use Rattle.run_laws.proofs.CallHistories.{HasBegun, IsReached, contains_option, new_begins, new_length, place_cases}
use Rattle.run_laws.proofs.JournalLines.{Tells}
use Rattle.run_laws.proofs.LastTurns.{SomeLives, lives_among}
use Rattle.run_laws.proofs.Moments.{IsOwn, IsSettled, StandsAtMoment, each_option, lives_after_set}

-- ---- what is loaded

pub loaded_consistent : (plan : MemPlan) (told : Files) (name : List ℕ) (l : Loaded) → IsProgramLoaded plan told name l → IsConsistent l
loaded_consistent plan told name l h =
    loads_keep_lem h.start l (Some told) name eager h.group (new_is_consistent_lem plan h.start h.fresh) h.planned
    (files_taken h.start.modules told name eager h.group h.planned) h.committed

pub loaded_bound : (plan : MemPlan) (told : Files) (name : List ℕ) (l : Loaded) → IsProgramLoaded plan told name l → AllBound l.modules.process
loaded_bound = programs_bound_lem

pub loaded_plan : (plan : MemPlan) (told : Files) (name : List ℕ) (l : Loaded) → IsProgramLoaded plan told name l → l.modules.plan ≡ plan
loaded_plan plan told name l h = h.committed.plan' ∙ ap (λ (m : LoadedModules). m.plan) h.fresh.starts

-- ---- thread 0

nobody : (n u : ℕ) (thread : Thread) → thread_at (replicate n None) u ≡ Some thread → ⊥
nobody zero u thread at = absurd cc
nobody (suc n) zero thread at = absurd cc
nobody (suc n) (suc u) thread at = nobody n u thread at

module _ (l : Loaded) (entry limit : ℕ) (some : 0 < l.modules.plan.threads) where
  abbrev places : List (Option Thread)
  places = replicate l.modules.plan.threads None

  has_place : 0 < length places
  has_place = let count : length places ≡ l.modules.plan.threads = length-replicate {A = Option Thread} l.modules.plan.threads None in omega arith

  abbrev first : Thread
  first = thread_at_entry l entry

  abbrev begin : State
  begin = state_with l first

  first-settled : IsSettled l limit first
  first-settled = record {
    registers = refl;
    calls' = each_option (IsOwn l limit first.cpu) (call_begun l.modules.process l.modules.maps first.cpu) (λ call is new. is);
  }

  pub begin-stays : IsConsistent l → AllBound l.modules.process → StandsAtMoment l limit begin
  begin-stays consistent bound = record {
    loaded' = record { consistent = consistent; plan' = refl; process' = refl; maps' = refl };
    bound = bound;
    within = omega arith;
    threads' = λ u thread at. elim (lives_after_set places 0 u (Some first) thread at) as (λ _. IsSettled l limit thread) [
      | inl is ↦ let same : first ≡ thread = cc in subst (IsSettled l limit) same first-settled
      | inr was ↦ absurd (nobody l.modules.plan.threads u thread was)
    ];
  }

  first_there : thread_at begin.threads 0 ≡ Some first
  first_there = get_or-set_same places 0 (Some first) None has_place

  -- the call that begins at the entry point
  first-enters : (call : Call) → call_begun l.modules.process l.modules.maps first.cpu ≡ Some call → Enters begin 0 first call
  first-enters call is = record {
    new = record { lives = first_there; among = contains_option (call_begun l.modules.process l.modules.maps first.cpu) call is; none_done = new_begins l first call is };
    begun = is;
  }

  first-histories : All (HasBegun limit begin [] 0) first.calls
  first-histories =
      each_option (HasBegun limit begin [] 0) (call_begun l.modules.process l.modules.maps first.cpu) (λ call is. record {
        first = [];
        before = [];
        done' = refl;
        s = begin;
        reached = refl;
        thread = first;
        new = call;
        enters = first-enters call is;
        own = sym (new_begins l first call is);
        length' = new_length l first call is;
      })

  first-kept : (u : ℕ) (thread : Thread) → u ≡ 0 → Some first ≡ Some thread → All (HasBegun limit begin [] u) thread.calls
  first-kept u thread at is =
      let same : first ≡ thread = cc in
      subst (λ (x : Thread). All (HasBegun limit begin [] u) x.calls) same (subst (λ (v : ℕ). All (HasBegun limit begin [] v) first.calls) (sym at) first-histories)

  pub begin-reached : IsConsistent l → AllBound l.modules.process → IsReached l limit begin [] begin
  begin-reached consistent bound = record {
    reached = refl;
    stands = begin-stays consistent bound;
    histories = λ u thread at.
        elim (place_cases places 0 u (Some first) thread has_place at) as (λ _. All (HasBegun limit begin [] u) thread.calls) [
          | inl here ↦ first-kept u thread here.0 here.1
          | inr there ↦ absurd (nobody l.modules.plan.threads u thread there.1)
        ];
  }

  pub begin-lives : SomeLives begin
  begin-lives = lives_among begin.threads 0 first first_there

  -- ---- the events before the first step

  loads-tell : (turns : List ℕ) (m : ℕ) (places : List (Option Live)) → All (Tells limit begin turns) (load_events_from m places)
  loads-tell turns m [] = All-nil (Tells limit begin turns)
  loads-tell turns m (None ∷ places) = loads-tell turns (suc m) places
  loads-tell turns m (Some live ∷ places) =
      All-append (Tells limit begin turns) (load_events_of m live) (load_events_from (suc m) places) (one (has_inits live.object.inits)) (loads-tell turns (suc m) places)
    where
      skipped : All (Tells limit begin turns) (event.Skipped m ∷ [])
      skipped = All-cons (Tells limit begin turns) (event.Skipped m) [] (record { calls' = tt; within = tt }) (All-nil (Tells limit begin turns))

      one : (b : Bool) → All (Tells limit begin turns) (event.Load m live.name ∷ cond b (event.Skipped m ∷ []) [])
      one true = All-cons (Tells limit begin turns) (event.Load m live.name) (event.Skipped m ∷ []) (record { calls' = tt; within = tt }) skipped
      one false = All-cons (Tells limit begin turns) (event.Load m live.name) [] (record { calls' = tt; within = tt }) (All-nil (Tells limit begin turns))

  pub first-tells : (turns : List ℕ) → All (Tells limit begin turns) (first_events l first)
  first-tells turns =
      let P : Event → Type 0 = Tells limit begin turns in
      let o : Option Call = call_begun l.modules.process l.modules.maps first.cpu in
      All-append P (load_events l.modules.process) (map (entering 0 0) first.calls) (loads-tell turns 0 l.modules.process.modules)
      (All-map P (entering 0 0) (option_to_list o)
      (each_option (λ (call : Call). P (entering 0 0 call)) o (λ call is. record {
        calls' = record {
          s = begin;
          coming = turns;
          moment = record { done = []; turns' = refl; state' = refl };
          steps' = refl;
          thread = first;
          call = call;
          enters = first-enters call is;
          number' = refl;
          slot' = refl;
        };
        within = omega arith;
      })))
