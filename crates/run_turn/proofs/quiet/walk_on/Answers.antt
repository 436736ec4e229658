use Rattle.std.proofs.Common.{add-one}
use Rattle.guest_mem.proofs.Keeping.{Keeps-then}
use Rattle.run_turn.specs.parts.QuietSteps.{machine_of}
use Rattle.run_turn.proofs.QuietWalks.{has_asked, has_gone_on, has_stopped}
use Rattle.run_turn.proofs.quiet.walk_on.Goals as goal

pub returns-then-not-contains-clause-walked : goal.returns-then-not-contains-clause-walked
returns-then-not-contains-clause-walked c = λ p maps clear. record {
  mid = machine_of c.loop-quiet.cpu c.loop-quiet.guest;
  quiet' = c.loop-quiet.invariant.walked p maps clear;
  last' = has_gone_on c.loop-quiet.cpu c.step_decoded.new.cpu c.loop-quiet.guest c.step_decoded.new.guest c.step_decoded.result c.step_decoded.ensures.step c.in-Next.is;
  within = c.loop-quiet-test.true;
}

pub returns-in-Service-clause-walked : goal.returns-in-Service-clause-walked
returns-in-Service-clause-walked c = λ p maps clear. record {
  mid = machine_of c.loop-quiet.cpu c.loop-quiet.guest;
  quiet' = c.loop-quiet.invariant.walked p maps clear;
  last' = has_asked c.loop-quiet.cpu c.step_decoded.new.cpu c.loop-quiet.guest c.step_decoded.new.guest c.step_decoded.result c.step_decoded.ensures.step c.in-Service.number c.in-Service.is;
  within = c.loop-quiet-test.true;
}

pub returns-in-Stop-clause-walked : goal.returns-in-Stop-clause-walked
returns-in-Stop-clause-walked c = λ p maps clear. record {
  mid = machine_of c.loop-quiet.cpu c.loop-quiet.guest;
  quiet' = c.loop-quiet.invariant.walked p maps clear;
  last' =
      has_stopped c.loop-quiet.cpu c.step_decoded.new.cpu c.loop-quiet.guest c.step_decoded.new.guest c.step_decoded.result c.step_decoded.ensures.step c.in-Stop.why c.in-Stop.is
      (c.step_decoded.ensures.stops c.in-Stop.why c.in-Stop.is);
  within = c.loop-quiet-test.true;
}

pub loop-quiet-preserved : goal.loop-quiet-preserved
loop-quiet-preserved c = record {
  walked = λ p maps clear.
      rw add-one (
        machine_of c.loop-quiet.cpu c.loop-quiet.guest,
        c.loop-quiet.invariant.walked p maps clear,
        record {
          step = has_gone_on c.loop-quiet.cpu c.step_decoded.new.cpu c.loop-quiet.guest c.step_decoded.new.guest c.step_decoded.result c.step_decoded.ensures.step c.in-Next.is;
          clear = c.contains.ensures c.if-not-contains.false p maps clear;
        },
      );
  keeps = Keeps-then c.args.guest.now c.loop-quiet.guest c.step_decoded.new.guest c.loop-quiet.invariant.keeps c.step_decoded.ensures.keeps;
}
