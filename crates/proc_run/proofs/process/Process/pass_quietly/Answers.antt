use Rattle.std.proofs.Common.{sym, subst}
use Rattle.proc_run.specs.RunningProcess.{Running}
use Rattle.proc_run.specs.parts.QuietRuns.{HasPassed}
use Rattle.proc_run.proofs.QuietRuns.{all_passed, fewer_left, none_passed, quiet_next, ready_next, told_next}
use Rattle.proc_run.proofs.process.Process.pass_quietly.Goals as goal

pub loop-left-init : goal.loop-left-init
loop-left-init c = record {
  passed = none_passed c.args.self.now.limit c.args.thread c.args.self.now.state c.args.left.now c.requires.lives;
  ready = c.requires.ready;
}

pub pass-requires-clause-running : goal.pass-requires-clause-running
pass-requires-clause-running c = c.loop-left.invariant.ready.running

pub pass-requires-clause-lives : goal.pass-requires-clause-lives
pass-requires-clause-lives c = c.loop-left.invariant.passed.goes

pub loop-left-smaller : goal.loop-left-smaller
loop-left-smaller c =
    fewer_left c.args.self.now.limit c.args.thread c.args.self.now.state c.loop-left.self c.pass.new.self c.args.left.now c.loop-left.left c.pass.new.left c.in_ok-passed.passed
    c.loop-left.invariant.passed c.loop-left.invariant.ready c.in_ok-passed.ensures.taken c.in-None.is

pub loop-left-preserved : goal.loop-left-preserved
loop-left-preserved c = record {
  passed =
      quiet_next c.args.self.now.limit c.args.thread c.args.self.now.state c.loop-left.self c.pass.new.self c.args.left.now c.loop-left.left c.pass.new.left c.in_ok-passed.passed
      c.loop-left.invariant.passed c.loop-left.invariant.ready c.in_ok-passed.ensures.taken c.in-None.is;
  ready = ready_next c.args.self.now.limit c.loop-left.self c.pass.new.self c.loop-left.invariant.ready c.in_ok-passed.ensures.rest c.in_ok-passed.ensures.running;
}

pub returns-in-Some-clause-passed : goal.returns-in-Some-clause-passed
returns-in-Some-clause-passed c =
    let told =
    told_next c.args.self.now.limit c.args.thread c.args.self.now.state c.loop-left.self c.pass.new.self c.args.left.now c.loop-left.left c.pass.new.left c.in_ok-passed.passed
    c.loop-left.invariant.passed c.loop-left.invariant.ready c.in_ok-passed.ensures.taken c.in-Some.settled.answer c.in-Some.settled.events c.in-Some.is in
    subst (λ (p : Running). HasPassed c.args.self.now.limit c.args.thread c.args.self.now.state c.args.left.now p.state c.pass.new.left c.in-Some.settled.answer c.in-Some.settled.events)
    (sym c.self.view_is) told

pub returns-clause-passed : goal.returns-clause-passed
returns-clause-passed c =
    all_passed c.args.self.now.limit c.args.thread c.args.self.now.state c.loop-left.self.state c.args.left.now c.loop-left.left c.loop-left.self.pending
    c.loop-left.invariant.ready.none c.loop-left-test.false c.requires.some c.loop-left.invariant.passed
