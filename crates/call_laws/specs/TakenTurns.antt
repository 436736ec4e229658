-- The turns that a course takes, each by its thread: they follow from the schedule, from the threads that live, and from how
-- the turns end.
use Rattle.std.specs.Prelude.{ℕ, zero, suc, List, [], ◌∷◌, Option, Some, None}
use Rattle.run_model.specs.declared.thread.Turned.{Turned}
use Rattle.run_model.specs.declared.thread.Turned.TheVariants.{Next, Yield, ThreadDone, Ended, Stopped, StoreFault, SinkFault, Memory}
use Rattle.run_model.specs.State.{State, live_from}
use Rattle.run_model.specs.Turns.{Taken, turn_of}

-- what comes after a turn: the same thread's turns, or others', or none where the run is over
abbrev pub threads_after : Turned → List ℕ → List ℕ → List ℕ
threads_after Next same others = same
threads_after Yield same others = others
threads_after ThreadDone same others = others
threads_after Ended same others = []
threads_after (Stopped why) same others = []
threads_after StoreFault same others = []
threads_after SinkFault same others = []
threads_after Memory same others = []

abbrev pub threads_next : Taken → (State → List ℕ) → (State → List ℕ) → List ℕ
threads_next taken same others = threads_after taken.answer (same taken.state) (others taken.state)

-- thread t takes up to n turns, and then comes the rest
abbrev pub threads_of_turns : ℕ → ℕ → (State → List ℕ) → ℕ → State → List ℕ
threads_of_turns limit t rest zero s = rest s
threads_of_turns limit t rest (suc n) s = t ∷ threads_next (turn_of limit s t) (threads_of_turns limit t rest n) rest

-- a live thread goes on until it ends or gives up its turn, and then the next one in cyclic order
abbrev pub threads_freely : ℕ → ℕ → Option ℕ → State → List ℕ
threads_freely limit most None s = []
threads_freely limit zero (Some t) s = t ∷ []
threads_freely limit (suc most) (Some t) s =
    t ∷ threads_next (turn_of limit s t) (threads_freely limit most (Some t)) (λ later. threads_freely limit most (live_from later.threads (suc t)) later)

-- the threads of the turns of a course, in order
abbrev pub threads_of : ℕ → List (ℕ × ℕ) → State → List ℕ
threads_of limit [] s = threads_freely limit limit (live_from s.threads 0) s
threads_of limit (turn ∷ turns) s = threads_of_turns limit turn.0 (threads_of limit turns) turn.1 s
