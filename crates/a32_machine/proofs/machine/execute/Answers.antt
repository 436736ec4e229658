use Rattle.a32_machine.specs.Step.{execute}
use Rattle.a32_machine.proofs.machine.execute.Goals as goal

pub returns-in-Clz : goal.returns-in-Clz
unfolding execute
returns-in-Clz c = rw c.in-Clz.is (c.count_zeros.ensures c.args.guest.now)

pub returns-in-Movw : goal.returns-in-Movw
unfolding execute
returns-in-Movw c = rw c.in-Movw.is (c.move_wide.ensures c.args.guest.now)

pub returns-in-Movt : goal.returns-in-Movt
unfolding execute
returns-in-Movt c = rw c.in-Movt.is (c.move_top.ensures c.args.guest.now)

pub returns-in-Branch : goal.returns-in-Branch
unfolding execute
returns-in-Branch c = rw c.in-Branch.is (c.branch-link.ensures c.args.guest.now)
