-- A process that runs: its state, the most steps that it takes, and the events that have no line yet.
use Rattle.std.specs.Prelude.{ℕ, List}
use Rattle.run_model.specs.declared.event.Event.{Event}
use Rattle.run_model.specs.State.{State}

pub record Running : Type 0 where
  pub state : State
  pub limit : ℕ
  pub pending : List Event
