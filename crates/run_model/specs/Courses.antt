-- The course of a run: the turns of its schedule, and then each live thread in cyclic order, until it ends.
use Rattle.std.specs.Prelude.{ℕ, zero, suc, List, [], ◌∷◌, ◌++◌, Option, Some, None}
use Rattle.run_model.specs.declared.event.Event.{Event}
use Rattle.run_model.specs.declared.thread.Turned.{Turned}
use Rattle.run_model.specs.declared.thread.Turned.TheVariants.{Next, Yield, ThreadDone, Ended, Stopped, StoreFault, SinkFault, Memory}
use Rattle.run_model.specs.State.{State, live_from}
use Rattle.run_model.specs.Turns.{Taken, turn_of}

-- the events to the end, and the answer of the last turn
pub record Course : Type 0 where
  pub events : List Event
  pub answer : Turned

abbrev pub before : List Event → Course → Course
before events c = record { events = events ++ c.events; answer = c.answer }

abbrev pub ends : List Event → Turned → Course
ends events answer = record { events = events; answer = answer }

-- what follows a turn: the same thread goes on, or others do, or the run is over
abbrev pub followed : Turned → List Event → Course → Course → Course
followed Next events same others = before events same
followed Yield events same others = before events others
followed ThreadDone events same others = before events others
followed Ended events same others = ends events Ended
followed (Stopped why) events same others = ends events (Stopped why)
followed StoreFault events same others = ends events StoreFault
followed SinkFault events same others = ends events SinkFault
followed Memory events same others = ends events Memory

abbrev pub after_turn : Taken → (State → Course) → (State → Course) → Course
after_turn taken same others = followed taken.answer taken.events (same taken.state) (others taken.state)

-- Thread t takes up to n steps; it takes fewer where it ends or gives up its turn. Then comes the rest.
abbrev pub turns_of : ℕ → ℕ → (State → Course) → ℕ → State → Course
turns_of limit t rest zero s = rest s
turns_of limit t rest (suc n) s = after_turn (turn_of limit s t) (turns_of limit t rest n) rest

-- A live thread goes on until it ends or gives up its turn, and then the next one in cyclic order. `most` is no less than
-- the number of steps that are left, so that the limit comes first.
abbrev pub freely : ℕ → ℕ → Option ℕ → State → Course
freely limit most None s = ends [] Ended
freely limit zero (Some t) s = ends (turn_of limit s t).events (turn_of limit s t).answer
freely limit (suc most) (Some t) s =
    after_turn (turn_of limit s t) (freely limit most (Some t)) (λ later. freely limit most (live_from later.threads (suc t)) later)

abbrev pub unscheduled : ℕ → State → Course
unscheduled limit s = freely limit limit (live_from s.threads 0) s

-- the turns of a schedule, each by its thread and its number of steps
abbrev pub course_of : ℕ → List (ℕ × ℕ) → State → Course
course_of limit [] s = unscheduled limit s
course_of limit (turn ∷ turns) s = turns_of limit turn.0 (course_of limit turns) turn.1 s
