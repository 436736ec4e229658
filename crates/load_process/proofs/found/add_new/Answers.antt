use Rattle.load_process.proofs.BreadthFirst.{with_new_more}
use Rattle.load_process.proofs.found.add_new.Goals as goal

pub loop-name-preserved : goal.loop-name-preserved
loop-name-preserved c = with_new_more _ _ _ _ _ _ c.loop-name-test.true c.name-item.is c.loop-name.invariant c.in_ok-add_one.ensures
