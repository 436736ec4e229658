use Rattle.load_process.proofs.EmptyProcess.{empty_valid}
use Rattle.load_process.proofs.joining.new_process.Goals as goal

pub returns-clause-valid : goal.returns-clause-valid
returns-clause-valid c = empty_valid _ c.in_ok-places.ensures c.in_ok-places-2.ensures c.new.ensures
