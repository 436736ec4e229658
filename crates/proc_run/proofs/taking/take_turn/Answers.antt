use Rattle.std.proofs.Common.{Option, ap, ◌∙◌}
use Rattle.run_turn.specs.declared.settling.Settled.{Settled}
use Rattle.run_turn.specs.parts.QuietTurns.{taken_as}
use Rattle.run_turn.specs.parts.Remainder.{state_with}
use Rattle.proc_run.proofs.PassedTurns.{turn_by_itself}
use Rattle.proc_run.proofs.taking.take_turn.Goals as goal

pub returns-in-Some-clause-taken : goal.returns-in-Some-clause-taken
returns-in-Some-clause-taken c =
    turn_by_itself c.args.limit c.args.t c.pass_turns.new.left (state_with c.args.loader.now.loaded c.args.threads.now c.args.steps.now)
    (state_with c.pass_turns.new.loader.loaded c.pass_turns.new.threads c.pass_turns.new.steps) c.in_ok-passed.passed c.in_ok-passed.ensures.taken
    ∙ ap (λ (o : Option Settled). taken_as o (state_with c.pass_turns.new.loader.loaded c.pass_turns.new.threads c.pass_turns.new.steps)) c.in-Some.is

pub returns-in-None-clause-taken : goal.returns-in-None-clause-taken
returns-in-None-clause-taken c =
    let quiet_one =
    turn_by_itself c.args.limit c.args.t c.pass_turns.new.left (state_with c.args.loader.now.loaded c.args.threads.now c.args.steps.now)
    (state_with c.pass_turns.new.loader.loaded c.pass_turns.new.threads c.pass_turns.new.steps) c.in_ok-passed.passed c.in_ok-passed.ensures.taken
    ∙ ap (λ (o : Option Settled). taken_as o (state_with c.pass_turns.new.loader.loaded c.pass_turns.new.threads c.pass_turns.new.steps)) c.in-None.is in
    rw c.new.ensures quiet_one
