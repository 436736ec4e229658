use Rattle.std.proofs.Common.{Some, subst}
use Rattle.a32_machine.specs.declared.cpu.StepEnd.{StepEnd}
use Rattle.run_turn.specs.parts.QuietSteps.{WalksOn, machine_of}
use Rattle.run_turn.proofs.CameTo.{has_asked, has_gone, has_stopped}
use Rattle.run_turn.proofs.instruction.come_to.Goals as goal

pub returns-in-Next-clause-done : goal.returns-in-Next-clause-done
returns-in-Next-clause-done c = λ before walks.
    let t = c.args.thread.now in
    has_gone before t.cpu t.refusal c.args.guest.now (subst (λ (e : StepEnd). WalksOn (Some e) before (machine_of t.cpu c.args.guest.now)) c.in-Next.is walks)

pub returns-in-Stop-clause-done : goal.returns-in-Stop-clause-done
returns-in-Stop-clause-done c = λ before walks.
    let t = c.args.thread.now in
    rw c.stop_by.ensures (has_stopped before t.cpu t.refusal c.args.guest.now c.in-Stop.why (subst (λ (e : StepEnd). WalksOn (Some e) before (machine_of t.cpu c.args.guest.now)) c.in-Stop.is walks))
