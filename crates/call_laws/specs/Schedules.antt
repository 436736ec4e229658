-- Turns of one instruction each, by a list of their threads.
use Rattle.std.specs.Prelude.{ℕ, suc, cond, ◌==◌, List, [], ◌∷◌, ◌++◌, Option, Some, None, option_and_then}
use Rattle.std.specs.Option.{option_map_or}
use Rattle.run_model.specs.declared.event.Event.{Event}
use Rattle.run_model.specs.declared.thread.Turned.{Turned}
use Rattle.run_model.specs.declared.thread.Turned.TheVariants.{Next, Yield, ThreadDone, Ended, Stopped, StoreFault, SinkFault, Memory}
use Rattle.run_model.specs.State.{State}
use Rattle.run_model.specs.Turns.{Taken, turn_of}

-- the state from which the run goes on; none where it is over
abbrev pub going_on : Turned → State → Option State
going_on Next s = Some s
going_on Yield s = Some s
going_on ThreadDone s = Some s
going_on Ended s = None
going_on (Stopped why) s = None
going_on StoreFault s = None
going_on SinkFault s = None
going_on Memory s = None

abbrev pub after : Taken → Option State
after taken = going_on taken.answer taken.state

abbrev pub turns_from : ℕ → List ℕ → State → Option State
turns_from limit [] s = Some s
turns_from limit (t ∷ ts) s = option_and_then (turns_from limit ts) (after (turn_of limit s t))

-- how many of the turns are a thread's own
abbrev pub own_turns : ℕ → List ℕ → ℕ
own_turns t [] = 0
own_turns t (u ∷ us) = cond (u == t) (suc (own_turns t us)) (own_turns t us)

-- the events of the turns, to the end of the run if it comes before
abbrev pub events_from : ℕ → List ℕ → State → List Event
events_from limit [] s = []
events_from limit (t ∷ ts) s = (turn_of limit s t).events ++ option_map_or (events_from limit ts) (after (turn_of limit s t)) []
