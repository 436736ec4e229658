-- What an instruction that is obeyed, and what follows it, come to.
use Rattle.std.proofs.Common.{◌≡◌, ℕ, zero, suc, ◌<◌, ◌^◌, true, false, List, [], ◌∷◌, Option, Some, None, Ok, Err, refl, sym, ap, subst, ◌∙◌}
use Rattle.std.specs.Prelude.{Result, IfOk, OnOk, map, nat_le, set}
use Rattle.std.proofs.lemmas.List.{get_or-set_same, set-get_or}
use Rattle.load_map.specs.declared.entry.MapEntry.{MapEntry}
use Rattle.guest_mem.specs.parts.Kept.{Keeps}
use Rattle.load_laws.proofs.MemorySteps.{steps_keep_lem}
use Rattle.load_model.specs.declared.module.SymbolicProcess.{SymbolicProcess}
use Rattle.load_state.specs.Consistent.{IsConsistent}
use Rattle.load_state.specs.Loaded.{Loaded}
use Rattle.run_model.specs.declared.event.Event.TheVariants as event
use Rattle.run_model.specs.declared.event.Stop.{Stop}
use Rattle.run_model.specs.declared.event.Stop.TheVariants as stop
use Rattle.run_model.specs.declared.service.Served.{Served}
use Rattle.run_model.specs.declared.service.Served.TheVariants as served
use Rattle.run_model.specs.declared.thread.Thread.{Thread}
use Rattle.run_model.specs.declared.thread.Turned.TheVariants as turned
use Rattle.run_model.specs.Instructions.{Obeyed}
use Rattle.run_model.specs.State.{State, lives, thread_at}
use Rattle.run_model.specs.Turns.{Taken, finished, gone_as, left_by, turn_of, turned_at, with_calls}
use Rattle.run_turn.specs.declared.lookups.Lookups.{Lookups}
use Rattle.run_turn.specs.declared.settling.Settled.{Settled}
use Rattle.run_turn.specs.parts.Lookups.{AreKnown}
use Rattle.run_turn.specs.parts.QuietTurns.{quiet}
use Rattle.run_turn.specs.parts.Remainder.{IsAt, Left, state_with}
use Rattle.run_turn.specs.parts.StopLaws.{StopsKeep}
use Rattle.placed_code.specs.parts.PlacedLaws.{ConsistentArePlaced}
use Rattle.placed_code.specs.parts.PlacedModules.{ArePlaced}
use Rattle.proc_run.specs.parts.TakenTurns.{HasObeyed, obeyed_in, thread_after}
use Rattle.proc_run.proofs.LivePlaces.{one_lives, within}

-- ---- places that are set

abbrev pub Threads : Type 0
Threads = List (Option Thread)

pub set_twice : (xs : Threads) (t : ℕ) (x y : Option Thread) → set (set xs t x) t y ≡ set xs t y
set_twice [] t x y = refl
set_twice (z ∷ xs) zero x y = refl
set_twice (z ∷ xs) (suc t) x y = ap (λ ys. z ∷ ys) (set_twice xs t x y)

abbrev emptied : Threads → Threads
emptied xs = map (λ place. None) xs

set_none : (xs : Threads) (t : ℕ) (x : Option Thread) → emptied (set xs t x) ≡ emptied xs
set_none [] t x = refl
set_none (z ∷ xs) zero x = refl
set_none (z ∷ xs) (suc t) x = ap (λ ys. None ∷ ys) (set_none xs t x)

pub set_back : (xs : Threads) (t : ℕ) (thread : Thread) → thread_at xs t ≡ Some thread → set xs t (Some thread) ≡ xs
set_back xs t thread at = subst (λ (x : Option Thread). set xs t x ≡ xs) at (set-get_or xs t None)

-- ---- what follows it is told by the thread after it alone

module _ (old later : Loaded) (threads : Threads) (steps t : ℕ) (thread after : Thread) (at : thread_at threads t ≡ Some thread) where
  abbrev first : State
  first = state_with old threads steps

  abbrev between : State
  between = state_with later (set threads t (Some after)) steps

  same_state : (later ≡ old) × (after ≡ thread) → between ≡ first
  same_state h =
      let back : set threads t (Some after) ≡ threads = ap (λ (x : Thread). set threads t (Some x)) h.1 ∙ set_back threads t thread at in
      rw (h.0, back) refl

  same_finish : (value : ℕ) → finished between t later value ≡ finished first t later value
  same_finish value = ap (λ ts. left_by (state_with later ts (suc steps)) t value) (set_twice threads t (Some after) None)

  follows : (x : Served) → ((why : Stop) → x ≡ served.Stopped why → (later ≡ old) × (after ≡ thread)) → gone_as between t later after x ≡ gone_as first t later after x
  follows served.Went stops = rw (set_twice threads t (Some after) (Some (with_calls later.modules.process later.modules.maps after))) refl
  follows (served.Wrote bytes) stops = rw (set_twice threads t (Some after) (Some (with_calls later.modules.process later.modules.maps after))) refl
  follows served.Yielded stops = rw (set_twice threads t (Some after) (Some (with_calls later.modules.process later.modules.maps after))) refl
  follows (served.Finished value) stops = same_finish value
  follows (served.Exited value) stops = rw (set_none threads t (Some after)) refl
  follows (served.Stopped why) stops = rw (same_state (stops why refl)) refl

-- ---- the turn

module _ (keep : StopsKeep) (limit : ℕ) (old : Loaded) (threads : Threads) (steps t : ℕ) (thread : Thread) (at : thread_at threads t ≡ Some thread) (more : nat_le limit steps ≡ false) where
  abbrev d : Obeyed
  d = obeyed_in old thread

  abbrev after : Thread
  after = thread_after thread d

  abbrev later : Loaded
  later = record old { memory = d.memory }

  stops : (why : Stop) → d.served ≡ served.Stopped why → (later ≡ old) × (after ≡ thread)
  stops why e =
      let kept = keep thread.cpu thread.refusal old.memory why e in
      (ap (λ (x : Obeyed). record old { memory = x.memory }) kept, ap (λ (x : Obeyed). thread_after thread x) kept)

  turn_is : turn_of limit (state_with old threads steps) t ≡ gone_as (state_with old threads steps) t later after d.served
  unfolding turn_of
  turn_is = ap (turned_at limit (state_with old threads steps) t) at ∙ rw more refl

  taken_as : (taken : Taken) → gone_as (state_with later (set threads t (Some after)) steps) t later after d.served ≡ taken
      → turn_of limit (state_with old threads steps) t ≡ taken
  taken_as taken h = turn_is ∙ sym (follows old later threads steps t thread after at d.served stops) ∙ h

abbrev Settles : Loaded → Threads → ℕ → ℕ → Served → Taken → Type 0
Settles new mid steps t x taken = (th : Thread) → thread_at mid t ≡ Some th → gone_as (state_with new mid steps) t new th x ≡ taken

settled_at : (keep : StopsKeep) (limit : ℕ) (old : Loaded) (threads : Threads) (steps t : ℕ) (thread : Thread) (taken : Taken) → thread_at threads t ≡ Some thread → nat_le limit steps ≡ false
    → Settles (record old { memory = (obeyed_in old thread).memory }) (set threads t (Some (thread_after thread (obeyed_in old thread)))) steps t (obeyed_in old thread).served taken
    → turn_of limit (state_with old threads steps) t ≡ taken
settled_at keep limit old threads steps t thread taken at more settles =
    let after = thread_after thread (obeyed_in old thread) in
    taken_as keep limit old threads steps t thread at more taken
    (settles after (get_or-set_same threads t (Some after) None (within threads t thread at)))

-- a turn of a thread, from what its instruction leaves and what follows it
settled : (keep : StopsKeep) (limit : ℕ) (old new : Loaded) (threads mid : Threads) (steps t : ℕ) (thread : Thread) (x : Served) (taken : Taken)
    → thread_at threads t ≡ Some thread → nat_le limit steps ≡ false → HasObeyed old new threads mid t thread x → Settles new mid steps t x taken
    → turn_of limit (state_with old threads steps) t ≡ taken
settled keep limit old new threads mid steps t thread x taken at more h settles =
    let P : Loaded → Type 0 = λ l. Settles l mid steps t x taken in
    let Q : Threads → Type 0 = λ ts. Settles (record old { memory = (obeyed_in old thread).memory }) ts steps t x taken in
    let R : Served → Type 0 =
    λ y. Settles (record old { memory = (obeyed_in old thread).memory }) (set threads t (Some (thread_after thread (obeyed_in old thread)))) steps t y taken in
    settled_at keep limit old threads steps t thread taken at more (subst R h.served' (subst Q h.threads' (subst P h.loaded' settles)))

-- ---- what stays

pub kept : (old new : Loaded) → IsConsistent old → Keeps old.memory new.memory → new ≡ record old { memory = new.memory } → IsConsistent new
kept old new c keeps rest = subst IsConsistent (sym rest) (steps_keep_lem old new.memory c keeps)

-- ---- what is answered

abbrev taken_with : Loaded → Threads → ℕ → Settled → Taken
taken_with l threads steps r = record { answer = r.answer; state = state_with l threads steps; events = r.events }

-- the turn leaves this
abbrev Leaves : ℕ → Loaded → Threads → ℕ → ℕ → Loaded → Threads → ℕ → Settled → Type 0
Leaves limit old threads steps t new later after r =
    turn_of limit (state_with old threads steps) t ≡ taken_with new later after r

pub turn_taken : {E : Type 0} (keep : StopsKeep) (limit : ℕ) (old new : Loaded) (p : SymbolicProcess) (maps : List (List MapEntry)) (threads mid ended : Threads) (steps steps_after t : ℕ) (x : Served)
    (r : Result Settled E) → lives threads t ≡ true → nat_le limit steps ≡ false → p ≡ new.modules.process → maps ≡ new.modules.maps
    → ((thread : Thread) → thread_at threads t ≡ Some thread → HasObeyed old new threads mid t thread x)
    → ((l : Loaded) (thread : Thread) → IsAt l p maps mid t thread → IfOk r (λ r. Left l ended steps_after r.answer r.events (gone_as (state_with l mid steps) t l thread x)))
    → IfOk r (Leaves limit old threads steps t new ended steps_after)
turn_taken keep limit old new p maps threads mid ended steps steps_after t x (Err e) live more same_p same_maps obeys settles = tt
turn_taken keep limit old new p maps threads mid ended steps steps_after t x (Ok r) live more same_p same_maps obeys settles =
    let one = one_lives (thread_at threads t) live in
    let h = obeys one.0 one.1 in
    settled keep limit old new threads mid steps t one.0 x _ one.1 more h
    (λ th at. settles new th (record { process' = sym same_p; maps' = sym same_maps; at = at }))

-- a turn of which nothing is told
pub quiet_taken : (keep : StopsKeep) (limit : ℕ) (old new : Loaded) (p : SymbolicProcess) (maps : List (List MapEntry)) (threads mid : Threads) (steps steps_after t : ℕ) (x : Served)
    → lives threads t ≡ true → nat_le limit steps ≡ false → p ≡ new.modules.process → maps ≡ new.modules.maps
    → ((thread : Thread) → thread_at threads t ≡ Some thread → HasObeyed old new threads mid t thread x) → steps_after ≡ suc steps
    → ((l : Loaded) (thread : Thread) (n : ℕ) → IsAt l p maps mid t thread → gone_as (state_with l mid n) t l thread x ≡ quiet (state_with l mid (suc n)))
    → turn_of limit (state_with old threads steps) t ≡ quiet (state_with new mid steps_after)
quiet_taken keep limit old new p maps threads mid steps steps_after t x live more same_p same_maps obeys one_more quiets =
    let one = one_lives (thread_at threads t) live in
    rw one_more
    (settled keep limit old new threads mid steps t one.0 x (quiet (state_with new mid (suc steps))) one.1 more (obeys one.0 one.1)
    (λ th at. quiets new th steps (record { process' = sym same_p; maps' = sym same_maps; at = at })))

pub at_limit : {E : Type 0} (limit : ℕ) (l : Loaded) (threads : Threads) (steps t : ℕ) (r : Result Settled E) → lives threads t ≡ true → nat_le limit steps ≡ true
    → IfOk r (λ r. r ≡ record { answer = turned.Stopped stop.Limit; events = event.Stopped steps t stop.Limit ∷ [] })
    → IfOk r (Leaves limit l threads steps t l threads steps)
unfolding turn_of
at_limit limit l threads steps t (Err e) live none h = tt
at_limit limit l threads steps t (Ok r) live none h =
    let one = one_lives (thread_at threads t) live in
    let s = state_with l threads steps in
    ap (turned_at limit s t) one.1 ∙ rw none (ap (λ (x : Settled). taken_with l threads steps x) (sym h))

pub if_ok : {X E P : Type 0} (r : Result X E) → P → OnOk r P
if_ok (Ok x) p = p
if_ok (Err e) p = tt

-- the modules of a loader stay placed where its memory changes
pub placed_at : ConsistentArePlaced → (old new : Loaded) (p : SymbolicProcess) (maps : List (List MapEntry)) → IsConsistent old → Keeps old.memory new.memory
    → new ≡ record old { memory = new.memory } → old.modules.plan.memory < 2 ^ 32 → p ≡ new.modules.process → maps ≡ new.modules.maps → ArePlaced p maps
placed_at law old new p maps c keeps rest small same_p same_maps =
    let plan : new.modules.plan ≡ old.modules.plan = ap (λ (l : Loaded). l.modules.plan) rest in
    let below : new.modules.plan.memory < 2 ^ 32 = rw plan small in
    rw (same_p, same_maps) (law new (kept old new c keeps rest) below)

-- the modules of a loader are placed
pub placed_now : ConsistentArePlaced → (l : Loaded) (p : SymbolicProcess) (maps : List (List MapEntry)) → IsConsistent l → l.modules.plan.memory < 2 ^ 32 → p ≡ l.modules.process → maps ≡ l.modules.maps
    → ArePlaced p maps
placed_now law l p maps c small same_p same_maps = rw (same_p, same_maps) (law l c small)

-- what is known of a loader's modules is so where its memory changes
pub known_on : (old new : Loaded) (known : Lookups) → new ≡ record old { memory = new.memory } → AreKnown old.modules.process old.modules.maps known
    → AreKnown new.modules.process new.modules.maps known
known_on old new known rest h = subst (λ (l : Loaded). AreKnown l.modules.process l.modules.maps known) (sym rest) h
