-- What the lines of a journal tell.
use Rattle.std.specs.Prelude.{ℕ, Option, Some, None}
use Rattle.run_model.specs.declared.event.Event.{Event}
use Rattle.run_model.specs.declared.event.Event.TheVariants.{Load, Skipped, Bind, Out, Open, Sym, Close, Gone, Start, Arrive, Enter, Done, Exit, End, Stopped}

-- the number of steps that are done, where a line tells it
abbrev pub steps_told : Event → Option ℕ
steps_told (Load m name) = None
steps_told (Skipped m) = None
steps_told (Bind n m slot f) = Some n
steps_told (Out n t bytes) = Some n
steps_told (Open n t name answer) = Some n
steps_told (Sym n t handle name answer) = Some n
steps_told (Close n t handle answer) = Some n
steps_told (Gone m) = None
steps_told (Start n t answer) = Some n
steps_told (Arrive n t f) = Some n
steps_told (Enter n t m slot) = Some n
steps_told (Done n t value) = Some n
steps_told (Exit n t value) = Some n
steps_told (End n) = Some n
steps_told (Stopped n t why) = Some n
