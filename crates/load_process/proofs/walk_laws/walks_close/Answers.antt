use Rattle.load_model.specs.Walk.{needed_by}
use Rattle.load_process.proofs.BreadthFirst.{found_closed}
use Rattle.load_process.proofs.walk_laws.walks_close.Goals as goal

pub returns : goal.returns
returns c = λ p files root joining names w. found_closed (needed_by p joining) root names w.walked.names'
