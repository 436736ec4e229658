-- The turns that a run takes.
use Rattle.std.proofs.Common.{◌≡◌, ℕ, zero, suc, List, [], ◌∷◌, ◌++◌, Option, Some, None, refl, ap, sym, append-nil}
use Rattle.std.specs.Option.{option_map_or}
use Rattle.run_model.specs.declared.event.Event.{Event}
use Rattle.run_model.specs.declared.thread.Turned.{Turned}
use Rattle.run_model.specs.declared.thread.Turned.TheVariants.{Next, Yield, ThreadDone, Ended, Stopped, StoreFault, SinkFault, Memory}
use Rattle.run_model.specs.Courses.{Course, after_turn, course_of, followed, freely, turns_of}
use Rattle.run_model.specs.State.{State, live_from}
use Rattle.run_model.specs.Turns.{Taken, turn_of}
use Rattle.call_laws.specs.parts.TurnLaws.{CoursesAreTurns}
use Rattle.call_laws.specs.Schedules.{after, events_from, going_on}
use Rattle.call_laws.specs.TakenTurns.{threads_after, threads_freely, threads_next, threads_of, threads_of_turns}

module _ (limit : ℕ) where
  -- a course that takes these turns from a state on
  abbrev IsOf : State → Course → List ℕ → Type 0
  IsOf s course threads = course.events ≡ events_from limit threads s

  -- what a turn and the turns after it report
  abbrev reports : List Event → Option State → List ℕ → List Event
  reports events o threads = events ++ option_map_or (events_from limit threads) o []

  followed-reports : (answer : Turned) (events : List Event) (s : State) (same others : Course) (ts us : List ℕ) → IsOf s same ts → IsOf s others us
      → (followed answer events same others).events ≡ reports events (going_on answer s) (threads_after answer ts us)
  followed-reports Next events s same others ts us h k = ap (λ es. events ++ es) h
  followed-reports Yield events s same others ts us h k = ap (λ es. events ++ es) k
  followed-reports ThreadDone events s same others ts us h k = ap (λ es. events ++ es) k
  followed-reports Ended events s same others ts us h k = sym (append-nil events)
  followed-reports (Stopped why) events s same others ts us h k = sym (append-nil events)
  followed-reports StoreFault events s same others ts us h k = sym (append-nil events)
  followed-reports SinkFault events s same others ts us h k = sym (append-nil events)
  followed-reports Memory events s same others ts us h k = sym (append-nil events)

  turn-reports : (t : ℕ) (s : State) (same others : State → Course) (ts us : State → List ℕ) → ((later : State) → IsOf later (same later) (ts later))
      → ((later : State) → IsOf later (others later) (us later)) → IsOf s (after_turn (turn_of limit s t) same others) (t ∷ threads_next (turn_of limit s t) ts us)
  turn-reports t s same others ts us h k =
      let taken : Taken = turn_of limit s t in
      let later : State = taken.state in
      followed-reports taken.answer taken.events later (same later) (others later) (ts later) (us later) (h later) (k later)

  turns_of-reports : (t : ℕ) (rest : State → Course) (us : State → List ℕ) (n : ℕ) → ((later : State) → IsOf later (rest later) (us later)) → (s : State)
      → IsOf s (turns_of limit t rest n s) (threads_of_turns limit t us n s)
  turns_of-reports t rest us zero k s = k s
  turns_of-reports t rest us (suc n) k s =
      turn-reports t s (turns_of limit t rest n) rest (threads_of_turns limit t us n) us (turns_of-reports t rest us n k) k

  nothing_more : (events : List Event) (o : Option State) → events ≡ events ++ option_map_or (events_from limit []) o []
  nothing_more events None = sym (append-nil events)
  nothing_more events (Some s) = sym (append-nil events)

  freely-reports : (most : ℕ) (o : Option ℕ) (s : State) → IsOf s (freely limit most o s) (threads_freely limit most o s)
  freely-reports zero None s = refl
  freely-reports (suc most) None s = refl
  freely-reports zero (Some t) s = nothing_more (turn_of limit s t).events (after (turn_of limit s t))
  freely-reports (suc most) (Some t) s =
      turn-reports t s (freely limit most (Some t)) (λ later. freely limit most (live_from later.threads (suc t)) later) (threads_freely limit most (Some t))
      (λ later. threads_freely limit most (live_from later.threads (suc t)) later) (freely-reports most (Some t))
      (λ later. freely-reports most (live_from later.threads (suc t)) later)

  course-reports : (turns : List (ℕ × ℕ)) (s : State) → IsOf s (course_of limit turns s) (threads_of limit turns s)
  course-reports [] s = freely-reports limit (live_from s.threads 0) s
  course-reports (turn ∷ turns) s = turns_of-reports turn.0 (course_of limit turns) (threads_of limit turns) turn.1 (course-reports turns) s

pub courses_are_turns : CoursesAreTurns
courses_are_turns limit turns s = course-reports limit turns s
