use Rattle.load_laws.proofs.MemorySteps.{steps_keep_lem}
use Rattle.load_laws.proofs.steps.steps_keep_consistent.Goals as goal

pub returns : goal.returns
returns c = steps_keep_lem
