use Rattle.library_model.proofs.Left as lemma
use Rattle.library_model.proofs.laws.left_may_go.Goals as goal

pub returns : goal.returns
returns c = lemma.left_may_go
