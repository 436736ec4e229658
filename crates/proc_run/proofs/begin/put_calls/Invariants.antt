use Rattle.std.proofs.Common.{◌≡◌, ◌++◌, drop}
use Rattle.std.specs.Prelude.{map}
use Rattle.run_model.specs.Turns.{entering}
use Rattle.proc_run.proofs.begin.put_calls.Given as goal

-- what is left is to come
abbrev pub invariant-loop-call : goal.invariant-loop-call
invariant-loop-call l = l.events ++ map (entering 0 0) (drop l.call-index l.calls) ≡ l.fn.events ++ map (entering 0 0) l.calls
