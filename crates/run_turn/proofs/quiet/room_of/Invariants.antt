use Rattle.std.proofs.Common.{ℕ, ◌<◌, ◌≤◌, get_or}
use Rattle.run_model.specs.declared.thread.Call.{Call}
use Rattle.run_turn.specs.parts.QuietCalls.{HasRoom}
use Rattle.run_turn.proofs.quiet.room_of.Given as goal

-- there is room in those that have been looked at
abbrev pub invariant-loop-call : goal.invariant-loop-call
invariant-loop-call l = record {
  most : l.room ≤ l.most;
  within : (k : ℕ) (d : Call) → k < l.call-index → HasRoom l.room (get_or l.calls k d);
}
