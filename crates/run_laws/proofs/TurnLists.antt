-- Some turns, and others after them.
use Rattle.std.proofs.Common.{◌≡◌, ℕ, suc, ◌+◌, Bool, true, false, cond, List, [], ◌∷◌, ◌++◌, Option, Some, None, refl, ap, sym, ◌∙◌, append-nil, append_assoc, arith}
use Rattle.std.specs.Prelude.{option_and_then, ◌==◌}
use Rattle.std.specs.Option.{option_map_or}
use Rattle.run_model.specs.declared.event.Event.{Event}
use Rattle.run_model.specs.State.{State}
use Rattle.run_model.specs.Turns.{turn_of}
use Rattle.call_laws.specs.Schedules.{after, events_from, own_turns, turns_from}

module _ (limit : ℕ) where
  pub turns_then : (ts us : List ℕ) (s : State) → turns_from limit (ts ++ us) s ≡ option_and_then (turns_from limit us) (turns_from limit ts s)
  turns_then [] us s = refl
  turns_then (t ∷ ts) us s = by (after (turn_of limit s t)) (turns_then ts us)
    where
      by : (o : Option State) → ((later : State) → turns_from limit (ts ++ us) later ≡ option_and_then (turns_from limit us) (turns_from limit ts later))
          → option_and_then (turns_from limit (ts ++ us)) o ≡ option_and_then (turns_from limit us) (option_and_then (turns_from limit ts) o)
      by None more = refl
      by (Some later) more = more later

  -- where the first turns lead to a state, the others go on from there
  pub then_reached : (ts us : List ℕ) (s mid later : State) → turns_from limit ts s ≡ Some mid → turns_from limit us mid ≡ Some later → turns_from limit (ts ++ us) s ≡ Some later
  then_reached ts us s mid later h k = turns_then ts us s ∙ ap (option_and_then (turns_from limit us)) h ∙ k

  pub since_reached : (ts us : List ℕ) (s mid later : State) → turns_from limit ts s ≡ Some mid → turns_from limit (ts ++ us) s ≡ Some later → turns_from limit us mid ≡ Some later
  since_reached ts us s mid later h k = sym (ap (option_and_then (turns_from limit us)) h) ∙ sym (turns_then ts us s) ∙ k

  pub one_reached : (t : ℕ) (s later : State) → after (turn_of limit s t) ≡ Some later → turns_from limit (t ∷ []) s ≡ Some later
  one_reached t s later goes = ap (option_and_then (turns_from limit [])) goes

  -- the events of these turns from where a run goes on
  abbrev pub events_if : List ℕ → Option State → List Event
  events_if us o = option_map_or (events_from limit us) o []

  pub events_then : (ts us : List ℕ) (s : State) → events_from limit (ts ++ us) s ≡ events_from limit ts s ++ events_if us (turns_from limit ts s)
  events_then [] us s = refl
  events_then (t ∷ ts) us s = by (turn_of limit s t).events (after (turn_of limit s t)) (events_then ts us)
    where
      by : (events : List Event) (o : Option State) → ((later : State) → events_from limit (ts ++ us) later ≡ events_from limit ts later ++ events_if us (turns_from limit ts later))
          → events ++ events_if (ts ++ us) o ≡ (events ++ events_if ts o) ++ events_if us (option_and_then (turns_from limit ts) o)
      by events None more = sym (append-nil (events ++ []))
      by events (Some later) more = ap (λ es. events ++ es) (more later) ∙ sym (append_assoc events (events_from limit ts later) (events_if us (turns_from limit ts later)))

-- ---- a thread's own turns

one_more : (b : Bool) (n k : ℕ) → cond b (suc (n + k)) (n + k) ≡ cond b (suc n) n + k
one_more true n k = omega arith
one_more false n k = refl

pub own_then : (t : ℕ) (ts us : List ℕ) → own_turns t (ts ++ us) ≡ own_turns t ts + own_turns t us
own_then t [] us = omega arith
own_then t (u ∷ ts) us = ap (λ n. cond (u == t) (suc n) n) (own_then t ts us) ∙ one_more (u == t) (own_turns t ts) (own_turns t us)
