use Rattle.std.proofs.Common.{◌≡◌, ◌+◌, true}
use Rattle.proc_run.proofs.QuietRuns.{lives_as, part_as, ready_as, state_as}
use Rattle.proc_run.proofs.RunParts.{nothing_put}
use Rattle.proc_run.proofs.SettledTurns.{if_ok}
use Rattle.run_model.specs.State.{State, lives}
use Rattle.proc_run.proofs.process.Process.step_on.Goals as goal

pub tell-requires : goal.tell-requires
tell-requires g c = record { own = c.in-Ok.ensures.passed.own }

pub returns-in-Ok-clause-part : goal.returns-in-Ok-clause-part
returns-in-Ok-clause-part g c = λ same others chain.
    part_as c.pass_quietly.new.self c.tell.new.self c.tell.result c.tell.ensures.rest _ (same c.pass_quietly.new.left) (others c.pass_quietly.new.left) _ _ _ _
    (c.tell.ensures.part _ _ _ (c.in-Ok.ensures.passed.part same others chain))

pub returns-in-Ok-clause-ready : goal.returns-in-Ok-clause-ready
returns-in-Ok-clause-ready g c =
    ready_as c.pass_quietly.new.self c.tell.new.self c.args.self.now.limit c.tell.result c.tell.ensures.rest c.in-Ok.ensures.running c.in-Ok.ensures.limit

pub returns-in-Ok-clause-steps : goal.returns-in-Ok-clause-steps
returns-in-Ok-clause-steps g c =
    state_as c.pass_quietly.new.self c.tell.new.self c.in-Ok.answer c.tell.result c.tell.ensures.rest c.tell.ensures.goes
    (λ (s : State). s.steps + c.pass_quietly.new.left ≡ c.args.self.now.state.steps + c.args.left.now) c.in-Ok.ensures.passed.steps

pub returns-in-Ok-clause-lives : goal.returns-in-Ok-clause-lives
returns-in-Ok-clause-lives g c =
    lives_as c.pass_quietly.new.self c.tell.new.self c.in-Ok.answer c.tell.result c.tell.ensures.rest c.tell.ensures.goes
    (λ (s : State). lives s.threads c.args.thread ≡ true) c.in-Ok.ensures.passed.goes

pub returns-in-Err-clause-part : goal.returns-in-Err-clause-part
returns-in-Err-clause-part g c = λ same others chain. nothing_put (same c.args.left.now c.args.self.now.state) (g.O.Sink.bytes c.args.out.now)

pub returns-in-Ok-clause-fewer : goal.returns-in-Ok-clause-fewer
returns-in-Ok-clause-fewer g c = if_ok c.tell.result c.in-Ok.ensures.passed.fewer
