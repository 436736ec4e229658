use Rattle.std.proofs.Common.{◌≡◌, ◌+◌, ◌-◌, ◌<◌, All}
use Rattle.run_model.specs.declared.thread.TheConstants.{LONGEST_CALL}
use Rattle.run_turn.specs.parts.QuietCalls.{calls_after}
use Rattle.run_turn.proofs.quiet.count_steps.Given as goal

abbrev pub invariant-loop : goal.invariant-loop
invariant-loop l = record {
  counted : l.calls ≡ calls_after l.counter l.fn.calls;
  short : l.counter < l.steps → All (λ call. call.done + (l.steps - l.counter) < LONGEST_CALL) l.calls;
}
