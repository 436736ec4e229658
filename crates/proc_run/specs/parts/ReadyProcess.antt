-- A process between two turns of a run.
use Rattle.std.specs.Prelude.{◌≡◌, ℕ, ◌<◌, ◌^◌, [], length, All}
use Rattle.load_state.specs.Consistent.{IsConsistent}
use Rattle.run_turn.specs.parts.CallsInProgress.{AreInProgress}
use Rattle.proc_run.specs.RunningProcess.{Running}

-- what holds of every process before a turn, and after each turn that goes on
pub record IsRunning (p : Running) : Type 0 where
  pub consistent : IsConsistent p.state.loaded
  pub count : length p.state.threads < 2 ^ 32
  pub calls : All AreInProgress p.state.threads

-- it runs, and no event is without its line
pub record IsReady (limit : ℕ) (p : Running) : Type 0 where
  pub running : IsRunning p
  pub limit' : p.limit ≡ limit
  pub none : p.pending ≡ []
