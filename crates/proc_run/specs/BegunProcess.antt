-- The process with which a run begins, over what is loaded.
use Rattle.std.specs.Prelude.{◌≡◌, ℕ, Some}
use Rattle.load_state.specs.Loaded.{Loaded}
use Rattle.run_model.specs.declared.thread.Thread.{Thread}
use Rattle.placed_code.specs.Places.{entry_point}
use Rattle.run_model.specs.Start.{first_cpu, first_events, first_thread, state_with}
use Rattle.proc_run.specs.RunningProcess.{Running}

-- the thread at an entry point
abbrev pub thread_at_entry : Loaded → ℕ → Thread
thread_at_entry l entry = first_thread l (first_cpu l entry)

-- thread 0 stands at the entry point of the program, and the events before the first step have no line yet
abbrev pub begun : Loaded → ℕ → ℕ → Running
begun l entry limit = record { state = state_with l (thread_at_entry l entry); limit = limit; pending = first_events l (thread_at_entry l entry) }

-- what is loaded has an entry point, at which the process begins
pub record IsBegun (l : Loaded) (limit : ℕ) (p : Running) : Type 0 where
  pub entry : ℕ
  pub entry' : entry_point l.modules.process l.modules.maps 0 ≡ Some entry
  pub begins : p ≡ begun l entry limit
