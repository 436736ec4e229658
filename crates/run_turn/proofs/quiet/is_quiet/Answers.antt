use Rattle.run_turn.proofs.QuietSteps.{quiet_step}
use Rattle.run_turn.proofs.quiet.is_quiet.Goals as goal

pub returns-in-Went-clause-quiet : goal.returns-in-Went-clause-quiet
returns-in-Went-clause-quiet c = λ so l thread steps at.
    rw c.in-Went.is (quiet_step _ _ l c.args.threads.now c.args.t steps thread at (c.is_apart_at.ensures.apart so thread at.at))
