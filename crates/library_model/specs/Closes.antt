-- What closing a library does to a process without addresses: its count of opens falls by one, and the groups that nothing
-- holds any longer go.
use Rattle.std.specs.Prelude.{◌≡◌, ◌↔◌, ℕ, ◌-◌, ◌<◌, true, Some}
use Rattle.load_model.specs.declared.module.Live.{Live}
use Rattle.load_model.specs.declared.module.SymbolicProcess.{SymbolicProcess}
use Rattle.load_model.specs.Process.{live_at}
use Rattle.load_removal.specs.Going.{ModuleSet, process_without}
use Rattle.library_model.specs.Holding.{Stays}
use Rattle.library_model.specs.Opens.{opens_of, with_opens}

-- module m is opened once less
abbrev pub opened_once_less : SymbolicProcess → ℕ → SymbolicProcess
opened_once_less p m = with_opens p m (opens_of p m - 1)

-- a live module whose group is not held
pub record IsLeft (p : SymbolicProcess) (m : ℕ) : Type 0 where
  pub live : Live
  pub there : live_at p m ≡ Some live
  pub free : ¬ Stays p live.group

-- these are the modules that nothing holds
abbrev pub AreLeft : SymbolicProcess → ModuleSet → Type 0
AreLeft p gone = (m : ℕ) → (gone m ≡ true) ↔ IsLeft p m

-- a close of a module that is opened
pub record IsClose (p : SymbolicProcess) (m : ℕ) (gone : ModuleSet) (new : SymbolicProcess) : Type 0 where
  pub opened : 0 < opens_of p m
  pub gone' : AreLeft (opened_once_less p m) gone
  pub after : new ≡ process_without gone (opened_once_less p m)
