use Rattle.load_process.proofs.WalksDetermined as lemma
use Rattle.load_process.proofs.walk_laws.walks_are_determined.Goals as goal

pub returns : goal.returns
returns c = lemma.walks_are_determined
