use Rattle.a32_machine.proofs.Stepping.{keeps, stops, aligned}
use Rattle.a32_machine.proofs.machine.step_decoded.Goals as goal

pub returns-clause-keeps : goal.returns-clause-keeps
returns-clause-keeps c = keeps c.args.cpu.now c.args.guest.now _ c.stepped_decoded.ensures

pub returns-clause-stops : goal.returns-clause-stops
returns-clause-stops c = stops c.args.cpu.now c.args.guest.now _ c.stepped_decoded.ensures

pub returns-clause-aligned : goal.returns-clause-aligned
returns-clause-aligned c = aligned c.args.cpu.now c.args.guest.now _ c.stepped_decoded.ensures c.whole-2.ensures c.whole.ensures.bytes
