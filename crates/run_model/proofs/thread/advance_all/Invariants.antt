use Rattle.std.proofs.Common.{◌≡◌, ◌<◌, ◌++◌, All, drop, map, take}
use Rattle.run_model.specs.declared.thread.TheConstants.{LONGEST_CALL}
use Rattle.run_model.specs.Turns.{advanced}
use Rattle.run_model.proofs.thread.advance_all.Given as goal

abbrev pub invariant-loop-call : goal.invariant-loop-call
invariant-loop-call l = record {
  value : l.calls ≡ map advanced (take l.call-index l.fn.calls) ++ drop l.call-index l.fn.calls;
  short : All (λ call. call.done < LONGEST_CALL) (drop l.call-index l.calls);
}
