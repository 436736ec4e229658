-- How turns end.
use Rattle.std.proofs.Common.{◌≡◌, ℕ, suc, ◌<◌, Bool, true, false, cond, List, Option, Some, None, length, refl, sym, ap, subst}
use Rattle.std.specs.Prelude.{is_some, nat_le, set}
use Rattle.std.proofs.lemmas.Bool.{leb-false}
use Rattle.std.proofs.lemmas.List.{get_or-set_same}
use Rattle.load_state.specs.Loaded.{Loaded}
use Rattle.run_model.specs.declared.service.Served.{Served}
use Rattle.run_model.specs.declared.service.Served.TheVariants as served
use Rattle.run_model.specs.declared.thread.Thread.{Thread}
use Rattle.run_model.specs.declared.thread.Turned.{Turned}
use Rattle.run_model.specs.declared.thread.Turned.TheVariants.{Next, Yield, ThreadDone, Ended, Stopped, StoreFault, SinkFault, Memory}
use Rattle.run_model.specs.Instructions.{obeyed_by}
use Rattle.run_model.specs.State.{State, lives, some_lives, thread_at}
use Rattle.run_model.specs.Turns.{Taken, finished, gone_as, turn_of, turned_at, turned_by, with_calls}
use Rattle.proc_run.specs.RunningProcess.{Running}
use Rattle.proc_run.specs.parts.Turns.{GoesOn, IsTaken, TurnAnswers, taken_by}
pub use Rattle.proc_run.specs.parts.Turns.{IfNext, IsOwn}
use Rattle.proc_run.proofs.LivePlaces.{within}

-- a turn that goes on is a step, which the limit leaves; and a thread that goes on lives
pub record Answers (limit : ℕ) (s : State) (t : ℕ) (x : Taken) : Type 0 where
  pub own : IsOwn x.answer
  pub steps : GoesOn x.answer ((s.steps < limit) × (x.state.steps ≡ suc s.steps))
  pub goes : IfNext x.answer (lives x.state.threads t ≡ true)

module _ (limit : ℕ) (s : State) (t : ℕ) where
  either : (b : Bool) (x y : Taken) → Answers limit s t x → Answers limit s t y → Answers limit s t (cond b x y)
  either true x y h k = h
  either false x y h k = k

  still_there : (l : Loaded) (thread : Thread) → t < length s.threads → lives (set s.threads t (Some (with_calls l.modules.process l.modules.maps thread))) t ≡ true
  still_there l thread lt = ap is_some (get_or-set_same s.threads t (Some (with_calls l.modules.process l.modules.maps thread)) None lt)

  left-answers : (l : Loaded) (value : ℕ) → s.steps < limit → Answers limit s t (finished s t l value)
  left-answers l value more =
      either (some_lives (set s.threads t None)) _ _ (record { own = tt; steps = (more, refl); goes = tt }) (record { own = tt; steps = tt; goes = tt })

  gone-answers : (l : Loaded) (thread : Thread) (x : Served) → t < length s.threads → s.steps < limit → Answers limit s t (gone_as s t l thread x)
  gone-answers l thread served.Went lt more = record { own = tt; steps = (more, refl); goes = still_there l thread lt }
  gone-answers l thread (served.Wrote bytes) lt more = record { own = tt; steps = (more, refl); goes = still_there l thread lt }
  gone-answers l thread served.Yielded lt more = record { own = tt; steps = (more, refl); goes = tt }
  gone-answers l thread (served.Finished value) lt more = left-answers l value more
  gone-answers l thread (served.Exited value) lt more = record { own = tt; steps = tt; goes = tt }
  gone-answers l thread (served.Stopped why) lt more = record { own = tt; steps = tt; goes = tt }

  by_limit : (thread : Thread) (b : Bool) → nat_le limit s.steps ≡ b → t < length s.threads → Answers limit s t (turned_by limit s t thread)
  by_limit thread true none lt = rw none (record { own = tt; steps = tt; goes = tt })
  by_limit thread false more lt =
      let d = obeyed_by thread.cpu thread.refusal s.loaded.memory in
      rw more (gone-answers (record s.loaded { memory = d.memory }) (record { cpu = d.cpu; refusal = d.refusal; calls = thread.calls }) d.served lt (leb-false limit s.steps more))

at_place : (limit : ℕ) (s : State) (t : ℕ) (o : Option Thread) → thread_at s.threads t ≡ o → is_some o ≡ true → Answers limit s t (turned_at limit s t o)
at_place limit s t None at live = absurd cc
at_place limit s t (Some thread) at live = by_limit limit s t thread (nat_le limit s.steps) refl (within s.threads t thread at)

-- the turn of a live thread
pub answers : (limit : ℕ) (s : State) (t : ℕ) → lives s.threads t ≡ true → Answers limit s t (turn_of limit s t)
unfolding turn_of
answers limit s t live = at_place limit s t (thread_at s.threads t) refl live

-- what a turn answers that is taken
pub turn_answers : (p : Running) (t : ℕ) (new : Running) (out later : Option (List ℕ)) (before after : ℕ) (answer : Turned) → lives p.state.threads t ≡ true
    → IsTaken p t new answer out later → TurnAnswers answer p t new out later before after
turn_answers p t new out later before after Next live h = h
turn_answers p t new out later before after Yield live h = h
turn_answers p t new out later before after ThreadDone live h = h
turn_answers p t new out later before after Ended live h = h
turn_answers p t new out later before after (Stopped why) live h = h
turn_answers p t new out later before after StoreFault live h = h
turn_answers p t new out later before after SinkFault live h = absurd (subst IsOwn (sym h.answer') (answers p.limit p.state t live).own)
turn_answers p t new out later before after Memory live h = absurd (subst IsOwn (sym h.answer') (answers p.limit p.state t live).own)

module _ (p : Running) (t : ℕ) (new : Running) (answer : Turned) (out later : Option (List ℕ)) (live : lives p.state.threads t ≡ true) (h : IsTaken p t new answer out later) where
  state_is : (taken_by p t).state ≡ new.state
  state_is = sym (ap (λ (q : Running). q.state) h.new')

  -- a turn that goes on is a step
  pub steps_of : GoesOn answer ((p.state.steps < p.limit) × (new.state.steps ≡ suc p.state.steps))
  steps_of =
      let P : Turned → Type 0 = λ a. GoesOn a ((p.state.steps < p.limit) × ((taken_by p t).state.steps ≡ suc p.state.steps)) in
      let Q : State → Type 0 = λ s. GoesOn answer ((p.state.steps < p.limit) × (s.steps ≡ suc p.state.steps)) in
      subst Q state_is (subst P (sym h.answer') (answers p.limit p.state t live).steps)

  -- a thread that goes on lives
  pub goes_of : IfNext answer (lives new.state.threads t ≡ true)
  goes_of =
      let P : Turned → Type 0 = λ a. IfNext a (lives (taken_by p t).state.threads t ≡ true) in
      let Q : State → Type 0 = λ s. IfNext answer (lives s.threads t ≡ true) in
      subst Q state_is (subst P (sym h.answer') (answers p.limit p.state t live).goes)
