use Rattle.std.proofs.Common.{◌≡◌, ◌++◌, drop}
use Rattle.run_model.specs.Start.{load_events_from}
use Rattle.proc_run.proofs.begin.put_loads.Given as goal

-- what is left is to come
abbrev pub invariant-loop-m : goal.invariant-loop-m
invariant-loop-m l = l.events ++ load_events_from l.m (drop l.m l.process.modules) ≡ l.fn.events ++ load_events_from 0 l.process.modules
