use Rattle.load_places.proofs.CommitSteps.{steps_commit_lem}
use Rattle.load_places.proofs.laws.steps_commit.Goals as goal

pub returns : goal.returns
returns c = steps_commit_lem
