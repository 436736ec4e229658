use Rattle.load_model.specs.Process.{is_live}
use Rattle.load_process.proofs.FreeNumbers.{free_more}
use Rattle.load_process.proofs.numbers.free_below.Goals as goal

pub loop-number-preserved : goal.loop-number-preserved
loop-number-preserved c = free_more (is_live c.args.process.now) _ _ _ c.loop-number.invariant c.in_ok-add_free.ensures
